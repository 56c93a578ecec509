-- Words that are put into words with "or".
use Rattle.std.proofs.Common.{◌≡◌, ℕ, ◌+◌, ◌-◌, ◌<◌, ◌≤◌, List, length, get_or, sym, ap, subst, ◌∙◌, arith}
use Rattle.std.specs.Prelude.{bit_or}
use Rattle.std.specs.Simd.Lanes.{zip2, chunk, put_chunk}
use Rattle.std.proofs.lemmas.Simd.{length-zip2, length-chunk, get_or-chunk, get_or-zip2, get_or-put_chunk_at, get_or-put_chunk_below, get_or-put_chunk_above}
use Rattle.raster_core.specs.Private.Words.{Ors}

-- Eight lanes of the mask and of the words, put back.
abbrev pub eight : (old : List ℕ) (at : ℕ) (mask : List ℕ) (from : ℕ) → List ℕ
eight old at mask from = put_chunk (at + from) old (zip2 bit_or (chunk (at + from) 8 old) (chunk from 8 mask))

length-lanes : (old : List ℕ) (at : ℕ) (mask : List ℕ) (from : ℕ) → at + from + 8 ≤ length old → from + 8 ≤ length mask → length (zip2 bit_or (chunk (at + from) 8 old) (chunk from 8 mask)) ≡ 8
length-lanes old at mask from space long =
    let a = length-chunk (at + from) 8 old space in
    let b = length-chunk from 8 mask long in
    length-zip2 bit_or (chunk (at + from) 8 old) (chunk from 8 mask) (a ∙ sym b) ∙ a

lane : (old : List ℕ) (at : ℕ) (mask : List ℕ) (from : ℕ) → at + from + 8 ≤ length old → from + 8 ≤ length mask → (j : ℕ) → j < 8
    → get_or (eight old at mask from) (at + from + j) 0 ≡ bit_or (get_or old (at + from + j) 0) (get_or mask (from + j) 0)
lane old at mask from space long j h =
    let a = length-chunk (at + from) 8 old space in
    let b = length-chunk from 8 mask long in
    let n = length-lanes old at mask from space long in
    get_or-put_chunk_at (at + from) old (zip2 bit_or (chunk (at + from) 8 old) (chunk from 8 mask)) j 0 (omega (arith, n)) (omega (arith, n))
    ∙ (get_or-zip2 bit_or (chunk (at + from) 8 old) (chunk from 8 mask) j 0 0 0 (omega (arith, a)) (omega (arith, b))
    ∙ (ap (λ x. bit_or x (get_or (chunk from 8 mask) j 0)) (get_or-chunk (at + from) 8 old j 0 h) ∙ ap (bit_or (get_or old (at + from + j) 0)) (get_or-chunk from 8 mask j 0 h)))

lane_at : (old : List ℕ) (at : ℕ) (mask : List ℕ) (from : ℕ) → at + from + 8 ≤ length old → from + 8 ≤ length mask → (k j : ℕ) → from + j ≡ k → j < 8
    → get_or (eight old at mask from) (at + k) 0 ≡ bit_or (get_or old (at + k) 0) (get_or mask k 0)
lane_at old at mask from space long k j e h =
    let f : at + from + j ≡ at + k = omega arith in
    let P : ℕ → ℕ → Type 0 = λ x y. get_or (eight old at mask from) x 0 ≡ bit_or (get_or old x 0) (get_or mask y 0) in
    subst (λ y. P (at + k) y) e (subst (λ x. P x (from + j)) f (lane old at mask from space long j h))

pub Ors-eight : (old : List ℕ) (at : ℕ) (mask : List ℕ) (from : ℕ) → at + from + 8 ≤ length old → from + 8 ≤ length mask → Ors old (eight old at mask from) at mask from (from + 8)
Ors-eight old at mask from space long =
    let n = length-lanes old at mask from space long in
    record {
      inside = λ k low high. lane_at old at mask from space long k (k - from) (omega arith) (omega arith);
      before = λ j h. get_or-put_chunk_below (at + from) old _ j 0 h;
      after = λ j h. get_or-put_chunk_above (at + from) old _ j 0 (omega (arith, n));
    }
