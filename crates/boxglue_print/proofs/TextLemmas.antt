-- Pieces that are appended one after the other.
use Rattle.std.proofs.Common.{◌≡◌, ◌++◌, ◌∙◌, List, ℕ, ap, append_assoc}

pub four_pieces : (out one two three four a b c d : List ℕ) → one ≡ out ++ a → two ≡ one ++ b → three ≡ two ++ c → four ≡ three ++ d
    → four ≡ out ++ (a ++ (b ++ (c ++ d)))
four_pieces out one two three four a b c d first second third fourth =
    let upto : three ≡ ((out ++ a) ++ b) ++ c =
    third ∙ ap (λ (text : List ℕ). text ++ c) (second ∙ ap (λ (text : List ℕ). text ++ b) first) in
    fourth ∙ (ap (λ (text : List ℕ). text ++ d) upto
    ∙ (append_assoc ((out ++ a) ++ b) c d ∙ (append_assoc (out ++ a) b (c ++ d) ∙ append_assoc out a (b ++ (c ++ d)))))

pub five_pieces : (out one two three four five a b c d e : List ℕ) → one ≡ out ++ a → two ≡ one ++ b → three ≡ two ++ c → four ≡ three ++ d → five ≡ four ++ e
    → five ≡ out ++ (a ++ (b ++ (c ++ (d ++ e))))
five_pieces out one two three four five a b c d e first second third fourth fifth =
    let upto : four ≡ out ++ (a ++ (b ++ (c ++ d))) = four_pieces out one two three four a b c d first second third fourth in
    fifth ∙ (ap (λ (text : List ℕ). text ++ e) upto
    ∙ (append_assoc out (a ++ (b ++ (c ++ d))) e ∙ ap (λ (text : List ℕ). out ++ text)
    (append_assoc a (b ++ (c ++ d)) e ∙ ap (λ (text : List ℕ). a ++ text) (append_assoc b (c ++ d) e ∙ ap (λ (text : List ℕ). b ++ text) (append_assoc c d e)))))
