-- A line of four numbers, which is written from its end.
use Rattle.std.proofs.Common.{◌≡◌, ℕ, ℤ, SFits, to_z, of_z, to_z-of_z, w32, ◌++◌, List, [], ◌∷◌, codes, ap, sym, ◌∙◌, append_assoc}
use Rattle.std.proofs.lemmas.List.{append-nil}
use Rattle.std.specs.Fmt.{signed_decimal}
use Rattle.dvi_read.specs.Listing.{line}
use Rattle.dvi_read.specs.Private.ListingParts.{decimal_line_end}

four_texts : (a b c d end : List ℕ) → (a ++ (b ++ (c ++ (d ++ [])))) ++ end ≡ a ++ (b ++ (c ++ (d ++ end)))
four_texts a b c d end =
    append_assoc a (b ++ (c ++ (d ++ []))) end
    ∙ ap (λ (l : List ℕ). a ++ l) (append_assoc b (c ++ (d ++ [])) end ∙ ap (λ (l : List ℕ). b ++ l) (append_assoc c (d ++ []) end ∙ ap (λ (l : List ℕ). c ++ l) (append_assoc d [] end)))

-- A number that was passed to a call is a word in its clause.
abbrev pub passed : ℤ → ℤ
passed z = to_z w32 (of_z w32 z)

pub one_more : (z : ℤ) (before after : List ℕ) → SFits w32 z → after ≡ (codes " " ++ signed_decimal (passed z)) ++ before → after ≡ (codes " " ++ signed_decimal z) ++ before
one_more z before after fits is = is ∙ ap (λ (y : ℤ). (codes " " ++ signed_decimal y) ++ before) (to_z-of_z fits)

-- The end of the line, then each number before it, then its word.
pub written_line : (word : List ℕ) (a b c d : ℤ) (one two three four whole : List ℕ) → SFits w32 a → SFits w32 b → SFits w32 c → SFits w32 d → one ≡ decimal_line_end (passed d)
    → two ≡ (codes " " ++ signed_decimal (passed c)) ++ one → three ≡ (codes " " ++ signed_decimal (passed b)) ++ two → four ≡ (codes " " ++ signed_decimal (passed a)) ++ three
    → whole ≡ word ++ four → line word (a ∷ b ∷ c ∷ d ∷ []) ≡ whole ++ []
unfolding line
written_line word a b c d one two three four whole fa fb fc fd ends third second first all =
    let end = ends ∙ ap decimal_line_end (to_z-of_z fd) in
    let remaining = one_more b two three fb second
    ∙ ap (λ (l : List ℕ). (codes " " ++ signed_decimal b) ++ l)
    (one_more c one two fc third ∙ ap (λ (l : List ℕ). (codes " " ++ signed_decimal c) ++ l) end) in
    ap (λ (l : List ℕ). word ++ l) (four_texts (codes " " ++ signed_decimal a) (codes " " ++ signed_decimal b) (codes " " ++ signed_decimal c) (codes " " ++ signed_decimal d) (10 ∷ []))
    ∙ sym (append-nil whole ∙ (all
    ∙ ap (λ (l : List ℕ). word ++ l) (one_more a three four fa first ∙ ap (λ (l : List ℕ). (codes " " ++ signed_decimal a) ++ l) remaining)))
