-- One more mark is painted.
use Rattle.std.proofs.Common.{◌≡◌, ℕ, ◌+◌, ◌<◌, Bool, true, false, ◌||◌, List, length, get_or, map, take, refl, sym, ap, ◌∙◌, subst, arith}
use Rattle.std.proofs.lemmas.List.{length-map, get_or-map}
use Rattle.std.proofs.lemmas.List.Folds.{list_any_more}
use Rattle.dvi_scan.specs.View.{mark_of}
use Rattle.dvi_scan.specs.declared.page.Mark.{Mark as PassMark}
use Rattle.raster_core.specs.Words.{in_rows}
use Rattle.raster_core.specs.Pixels.{Scale, covers, is_covered}

or_assoc : (a b c : Bool) → ((a || b) || c) ≡ (a || (b || c))
or_assoc true b c = refl
or_assoc false b c = refl

covered_more : (s : Scale) (marks : List PassMark) (i x y : ℕ) (d : PassMark) → i < length marks
    → is_covered s (take (i + 1) (map mark_of marks)) x y ≡ (is_covered s (take i (map mark_of marks)) x y || covers s (mark_of (get_or marks i d)) x y)
covered_more s marks i x y d h =
    let n = length-map marks mark_of in
    list_any_more (λ mark. covers s mark x y) (map mark_of marks) i (mark_of d) (omega (arith, n))
    ∙ ap (λ mark. is_covered s (take i (map mark_of marks)) x y || covers s mark x y) (get_or-map mark_of marks i d (mark_of d) h)

pub painted_more : (s : Scale) (marks : List PassMark) (i x y : ℕ) (d : PassMark) (n m : ℕ) (old mid new : List ℕ) → i < length marks → n ≡ m
    → in_rows new n x y ≡ (in_rows mid n x y || covers s (mark_of (get_or marks i d)) x y)
    → in_rows mid m x y ≡ (in_rows old m x y || is_covered s (take i (map mark_of marks)) x y)
    → in_rows new m x y ≡ (in_rows old m x y || is_covered s (take (i + 1) (map mark_of marks)) x y)
painted_more s marks i x y d n m old mid new h same step before =
    subst (λ k. in_rows new k x y ≡ (in_rows mid k x y || covers s (mark_of (get_or marks i d)) x y)) same step
    ∙ (ap (λ b. b || covers s (mark_of (get_or marks i d)) x y) before
    ∙ (or_assoc (in_rows old m x y) (is_covered s (take i (map mark_of marks)) x y) (covers s (mark_of (get_or marks i d)) x y)
    ∙ ap (λ b. in_rows old m x y || b) (sym (covered_more s marks i x y d h))))

-- No mark is painted yet.
pub none_painted : (s : Scale) (marks : List PassMark) (x y : ℕ) (b : Bool) → b ≡ (b || is_covered s (take 0 (map mark_of marks)) x y)
none_painted s marks x y true = refl
none_painted s marks x y false = refl
