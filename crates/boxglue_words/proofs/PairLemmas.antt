-- Words NAME=TFM, read one after the other.
use Rattle.std.proofs.Common.{◌≡◌, ◌++◌, ◌||◌, [], ◌∷◌, List, ℕ, Bool, true, false, length, map, refl, sym, ap, ap₂, ◌∙◌, arith, ◌<◌, zero, suc, take, drop, get_or, Result, Ok, Err, subst}
use Rattle.std.specs.Result.{IfErr, IsErrAnd}
use Rattle.std.specs.List.{AllByRecursion, IsDistinct, list_any, position_or_len}
use Rattle.std.specs.Str.{bytes_eq}
use Rattle.std.proofs.lemmas.List.Elements.{All-push, All-nil}
use Rattle.std.proofs.lemmas.List.Folds.{list_any_none}
use Rattle.std.proofs.lemmas.List.Sums.{fails_before_first}
use Rattle.clap.specs.Walk.{Text}
use Rattle.boxglue_words.specs.declared.fonts.NamedPath.{NamedPath}
use Rattle.boxglue_words.specs.declared.fonts.WordFault.{WordFault}
use Rattle.boxglue_words.specs.declared.fonts.WordFault.TheVariants.{Line, Memory, NotPair, NameTwice}
use Rattle.boxglue_words.specs.Private.Steps.{IsFaultAfter}
use Rattle.boxglue_words.specs.Pairs.{ArePairs, AreFonts, IsFaulty, IsPair, is_equals, name_of, path_part}

-- If no byte of a word is `=`, none passes the test.
pub lacks_equals : (word : Text) → position_or_len is_equals word ≡ length word → list_any is_equals word ≡ false
lacks_equals word h = list_any_none is_equals word (λ k d lt. fails_before_first is_equals word k d (omega arith))

-- A map of a list with one more element.
pub map_push : {X Y : Type 0} (f : X → Y) (xs : List X) (x : X) → map f (xs ++ x ∷ []) ≡ map f xs ++ f x ∷ []
map_push f [] x = refl
map_push f (y ∷ xs) x = ap (λ l. f y ∷ l) (map_push f xs x)

-- A test of a map's elements.
pub list_any-map : {X Y : Type 0} (p : Y → Bool) (f : X → Y) (xs : List X) → list_any p (map f xs) ≡ list_any (λ x. p (f x)) xs
list_any-map p f [] = refl
list_any-map p f (x ∷ xs) = ap (λ b. p (f x) || b) (list_any-map p f xs)

-- No name among these is that one.
others_push : (x y : Text) (xs : List Text) → AllByRecursion (λ z. bytes_eq x z ≡ false) xs → bytes_eq x y ≡ false → AllByRecursion (λ z. bytes_eq x z ≡ false) (xs ++ y ∷ [])
others_push x y [] h e = (e, tt)
others_push x y (z ∷ xs) h e = (h.0, others_push x y xs h.1 e)

no_first : (a b : Bool) → (a || b) ≡ false → a ≡ false
no_first true b h = h
no_first false b h = refl

no_rest : (a b : Bool) → (a || b) ≡ false → b ≡ false
no_rest true b h = absurd (cc h)
no_rest false b h = h

-- One more name, which differs from all of them.
pub distinct_push : (xs : List Text) (y : Text) → IsDistinct bytes_eq xs → list_any (λ x. bytes_eq x y) xs ≡ false → IsDistinct bytes_eq (xs ++ y ∷ [])
unfolding IsDistinct
distinct_push [] y h none = (tt, tt)
distinct_push (x ∷ xs) y h none =
    (others_push x y xs h.0 (no_first (bytes_eq x y) _ none), distinct_push xs y h.1 (no_rest (bytes_eq x y) _ none))

-- The names of fonts are those of their words.
pub same_names : (words : List Text) (fonts : List NamedPath) (name : Text) → AreFonts words fonts
    → list_any (λ font. bytes_eq font.name name) fonts ≡ list_any (λ word. bytes_eq (name_of word) name) words
same_names words fonts name h =
    sym (list_any-map (λ x. bytes_eq x name) (λ (font : NamedPath). font.name) fonts) ∙ (ap (list_any (λ x. bytes_eq x name)) h.names
    ∙ list_any-map (λ x. bytes_eq x name) name_of words)

-- One more word and its font.
pub fonts_push : (words : List Text) (fonts : List NamedPath) (word : Text) (font : NamedPath) → AreFonts words fonts
    → IsPair word → font.name ≡ name_of word → font.path.now ≡ path_part word
    → list_any (λ other. bytes_eq other.name (name_of word)) fonts ≡ false → AreFonts (words ++ word ∷ []) (fonts ++ font ∷ [])
fonts_push words fonts word font h pair name path none = record {
  pairs = record {
    pairs = All-push IsPair words word h.pairs.pairs pair;
    distinct = rw (map_push name_of words word)
        (distinct_push (map name_of words) (name_of word) h.pairs.distinct
        (list_any-map (λ x. bytes_eq x (name_of word)) name_of words ∙ (sym (same_names words fonts (name_of word) h) ∙ none)));
  };
  names = map_push (λ (f : NamedPath). f.name) fonts font ∙ (ap₂ (λ l x. l ++ x ∷ []) h.names name ∙ sym (map_push name_of words word));
  paths = map_push (λ (f : NamedPath). f.path.now) fonts font ∙ (ap₂ (λ l x. l ++ x ∷ []) h.paths path ∙ sym (map_push path_part words word));
}

-- No words give no fonts.
pub no_fonts : AreFonts [] []
unfolding IsDistinct
no_fonts = record { pairs = record { pairs = All-nil IsPair; distinct = tt }; names = refl; paths = refl }

-- A list as an element with those before it and those after it, under a map.
pub map_split : {X Y : Type 0} (f : X → Y) (xs : List X) (i : ℕ) (d : X) → i < length xs
    → map f xs ≡ map f (take i xs) ++ (f (get_or xs i d) ∷ map f (drop (suc i) xs))
map_split f [] i d lt = absurd (omega arith)
map_split f (x ∷ xs) zero d lt = refl
map_split f (x ∷ xs) (suc i) d lt = ap (λ l. f x ∷ l) (map_split f xs i d (omega arith))

-- The fault of a word after pairs is the first.
pub first_fault : (words before : List Text) (word : Text) (after : List Text) (fault : WordFault) → words ≡ before ++ (word ∷ after)
    → ArePairs before → IsFaultAfter before word fault → IsFaulty words fault
first_fault words before word after Memory split pairs faulty = record { before = before; word = word; after = after; split = split; pairs = pairs; cut = faulty }
first_fault words before word after (Line text) split pairs faulty = absurd faulty
first_fault words before word after (NotPair named) split pairs faulty =
    record { before = before; word = word; after = after; split = split; pairs = pairs; faulty = faulty }
first_fault words before word after (NameTwice name) split pairs faulty =
    record { before = before; word = word; after = after; split = split; pairs = pairs; faulty = faulty }

-- What holds of an error holds of the one that `?` returns.
pub handed_on : {A E : Type 0} (P : E → Type 0) (r : Result A E) (e : E) → IsErrAnd r (λ y. y ≡ e) → P e → IfErr r P
handed_on P (Ok x) e given p = tt
handed_on P (Err y) e given p = subst P (sym given) p
