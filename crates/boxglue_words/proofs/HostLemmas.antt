-- Files of fonts, and what a file device reports.
use Rattle.std.proofs.Common.{◌≡◌, ◌≢◌, ◌++◌, ◌+◌, Result, Ok, Err, ◌<◌, ◌≤◌, length-append, [], ◌∷◌, List, ℕ, Option, Some, None, length, refl, sym, ◌∙◌, ap, append_assoc, arith, zero, suc, take, drop, get_or, false}
use Rattle.std.specs.Prelude.{IfSome}
use Rattle.std.specs.Result.{IsErrAnd}
use Rattle.std.specs.Option.{ForSome}
use Rattle.std.proofs.lemmas.List.{append-nil, length-take-le}
use base.Stored.{Gv, gnil, gnum, gcons, Coded}
use Rattle.std.specs.Io.KnownBytes.{Consumes}
use Rattle.std.proofs.KnownBytes.{Consumes-trans}
use Rattle.dvi_device.specs.Beginnings.{Beginning}
use Rattle.dvi_device.specs.Written.{written_then}
use Rattle.tfm_core.specs.NamedBytes.{NamedBytes}
use Rattle.boxglue_words.specs.declared.fonts.NamedPath.{NamedPath}
use Rattle.boxglue_words.specs.Readings.{LosesFront}
use Rattle.boxglue_words.specs.declared.input_fault.InputFault.{InputFault}
use Rattle.boxglue_words.specs.Hosts.{AreFilesOf, IsFileOf, IsUnread, IsUnreadOf, begun_for, just_created, numbers_of, written_to_file}

-- One more font and its file.
pub files_push : (contents : List ℕ → Option (Option (List ℕ))) (fonts : List NamedPath) (files : List NamedBytes) (font : NamedPath) (file : NamedBytes)
    → AreFilesOf contents fonts files → IsFileOf contents font file
    → AreFilesOf contents (fonts ++ font ∷ []) (files ++ file ∷ [])
files_push contents [] [] font file h one = (one, tt)
files_push contents [] (other ∷ files) font file h one = absurd h
files_push contents (other ∷ fonts) [] font file h one = absurd h
files_push contents (first ∷ fonts) (other ∷ files) font file h one = (h.0, files_push contents fonts files font file h.1 one)

-- A list as an element with those before it and those after it.
pub list_split : {X : Type 0} (xs : List X) (i : ℕ) (d : X) → i < length xs → xs ≡ take i xs ++ (get_or xs i d ∷ drop (suc i) xs)
list_split [] i d lt = absurd (omega arith)
list_split (x ∷ xs) zero d lt = refl
list_split (x ∷ xs) (suc i) d lt = ap (λ l. x ∷ l) (list_split xs i d (omega arith))

-- The font at an index has no file, and those before it have one.
pub first_unread : (contents : List ℕ → Option (Option (List ℕ))) (fonts : List NamedPath) (i : ℕ) (font : NamedPath) (files : List NamedBytes)
    (fault : InputFault)
    → i < length fonts → font ≡ get_or fonts i font → AreFilesOf contents (take i fonts) files → IsUnreadOf contents font fault → IsUnread contents fonts fault
first_unread contents fonts i font files fault lt at read unread = record {
  before = take i fonts;
  files = files;
  font = font;
  after = drop (suc i) fonts;
  split = list_split fonts i font lt ∙ ap (λ other. take i fonts ++ (other ∷ drop (suc i) fonts)) (sym at);
  read = read;
  unread = unread;
}

-- Before a file is created, its known bytes are those of a file that was just created.
pub created_twice : (written : Option (List ℕ)) → just_created (just_created written) ≡ just_created written
created_twice None = refl
created_twice (Some bytes) = refl

-- A new device has reported no byte.
pub nothing_written : (written : Option (List ℕ)) → IfSome (written_to_file false written) (λ bytes. bytes ≡ [])
nothing_written None = tt
nothing_written (Some bytes) = refl

-- A file that took a byte is not empty, if it is known what it took.
pub grown_used : (before after : Option (List ℕ)) (n : ℕ) (piece : List ℕ) → after ≡ written_then before (take n piece) → 1 ≤ n → n ≤ length piece → ForSome after (λ bytes. bytes ≢ [])
grown_used None after n piece is some within bytes now = absurd (none_some (sym is ∙ now))
  where
    none_some : written_then None (take n piece) ≡ Some bytes → ⊥
    none_some e = cc
grown_used (Some contents) after n piece is some within bytes now = λ empty.
    let same : contents ++ take n piece ≡ [] = same_bytes (sym is ∙ now) ∙ empty in
    absurd (omega (arith, ap length same, length-append contents (take n piece), length-take-le n piece within, some))
  where
    same_bytes : written_then (Some contents) (take n piece) ≡ Some bytes → contents ++ take n piece ≡ bytes
    same_bytes e = cc

-- A code is known from its numbers, whatever follows them.
code_known : (one other : Gv) (more others : List ℕ) → numbers_of one ++ more ≡ numbers_of other ++ others → (one ≡ other) × (more ≡ others)
code_known gnil gnil more others is = (refl, cc)
code_known gnil (gnum n) more others is = absurd (cc)
code_known gnil (gcons c d) more others is = absurd (cc)
code_known (gnum m) gnil more others is = absurd (cc)
code_known (gnum m) (gnum n) more others is = (ap gnum (cc), cc)
code_known (gnum m) (gcons c d) more others is = absurd (cc)
code_known (gcons a b) gnil more others is = absurd (cc)
code_known (gcons a b) (gnum n) more others is = absurd (cc)
code_known (gcons a b) (gcons c d) more others is =
    let tails : (numbers_of a ++ numbers_of b) ++ more ≡ (numbers_of c ++ numbers_of d) ++ others = cc in
    let parts = sym (append_assoc (numbers_of a) (numbers_of b) more) ∙ (tails ∙ append_assoc (numbers_of c) (numbers_of d) others) in
    let (left, rest) = code_known a c (numbers_of b ++ more) (numbers_of d ++ others) parts in
    let (right, after) = code_known b d more others rest in
    (ap (λ (x : Gv). gcons x b) left ∙ ap (λ (x : Gv). gcons c x) right, after)

-- A text is known from what follows its length, and so is what comes after it.
front_known : (xs ys more others : List ℕ) → length xs ≡ length ys → xs ++ more ≡ ys ++ others → (xs ≡ ys) × (more ≡ others)
front_known [] [] more others same is = (refl, is)
front_known [] (y ∷ ys) more others same is = absurd (omega (arith, same))
front_known (x ∷ xs) [] more others same is = absurd (omega (arith, same))
front_known (x ∷ xs) (y ∷ ys) more others same is =
    let (first, rest) = cons_known x y (xs ++ more) (ys ++ others) is in
    let (tails, after) = front_known xs ys more others (omega (arith, same)) rest in
    (ap (λ (z : ℕ). z ∷ xs) first ∙ ap (λ (zs : List ℕ). y ∷ zs) tails, after)
  where
    cons_known : (a b : ℕ) (ends others : List ℕ) → a ∷ ends ≡ b ∷ others → (a ≡ b) × (ends ≡ others)
    cons_known a b ends others e = (cc, cc)

-- File devices with one beginning have one path and one host.
pub begun_alike : {H : Type 0} (coded : Coded H) (path other : List ℕ) (host begun : H) (written reported : Option (List ℕ)) (failures count : ℕ)
    → begun_for path (coded.code host) written failures ≡ begun_for other (coded.code begun) reported count → (path ≡ other) × (host ≡ begun)
begun_alike coded path other host begun written reported failures count is =
    let sent : length path ∷ (path ++ numbers_of (coded.code host)) ≡ length other ∷ (other ++ numbers_of (coded.code begun)) = ap (λ (b : Beginning). b.sent) is in
    let (paths, codes) = front_known path other (numbers_of (coded.code host)) (numbers_of (coded.code begun)) (sized sent) (followed sent) in
    let ended = append-nil (numbers_of (coded.code host)) ∙ (codes ∙ sym (append-nil (numbers_of (coded.code begun)))) in
    (paths, coded.inj host begun (code_known (coded.code host) (coded.code begun) [] [] ended).0)
  where
    sized : {a b : ℕ} {xs ys : List ℕ} → a ∷ xs ≡ b ∷ ys → a ≡ b
    sized e = cc

    followed : {a b : ℕ} {xs ys : List ℕ} → a ∷ xs ≡ b ∷ ys → xs ≡ ys
    followed e = cc

-- A reader that lost the bytes read so far has lost them and a piece, and at least so many and at most so many.
pub loses_piece : (least most : ℕ) (old mid new : Option (List ℕ)) (bytes piece : List ℕ) → Consumes old mid bytes → Consumes mid new piece
    → least ≤ length bytes + length piece → length bytes + length piece ≤ most → LosesFront least most old new
loses_piece least most old mid new bytes piece before then_lost at_least at_most = (
  bytes ++ piece,
  Consumes-trans old mid new bytes piece before then_lost,
  omega (arith, length-append bytes piece, at_least),
  omega (arith, length-append bytes piece, at_most),
)

-- An error that was handed on is the one that was returned.
pub handed_is : {A E : Type 0} (r : Result A E) (e other : E) → IsErrAnd r (λ y. y ≡ e) → r ≡ Err other → e ≡ other
handed_is (Ok x) e other given is = absurd given
handed_is (Err y) e other given is = sym given ∙ cc
