-- Items that are written into a buffer one part after the other.
use Rattle.std.proofs.Common.{◌≡◌, ◌≤◌, ◌+◌, ◌-◌, ◌++◌, [], ◌∷◌, List, drop, length, min, take, ℕ, append_assoc, arith, length-append, refl, sym, ◌∙◌, ap}
use Rattle.std.proofs.lemmas.List.{drop-drop, drop_at, length-drop, length-take, take-take, take_at}
use Rattle.boxglue_calls.specs.Buffers.{Holds}

-- One more part, after items that are there.
pub holds_put : {A : Type 0} (old mid new done items : List A) → length done + length items ≤ length old → take (length done) mid ≡ done
    → drop (length done + length items) mid ≡ drop (length done + length items) old → new ≡ take (length done) mid ++ (items ++ drop (length done + length items) mid) → Holds old new (done ++ items)
holds_put {A = A} old mid new done items space front rest is =
    let later : List A = drop (length done + length items) mid in
    let size : length (done ++ items) ≡ length done + length items = length-append done items in
    let whole : new ≡ (done ++ items) ++ later = is ∙ (ap (λ (xs : List A). xs ++ (items ++ later)) front ∙ sym (append_assoc done items later)) in
    record {
      space = omega arith;
      front = ap (λ (xs : List A). take (length (done ++ items)) xs) whole ∙ take_at (done ++ items) later (length (done ++ items)) refl;
      rest = ap (λ (xs : List A). drop (length (done ++ items)) xs) whole
          ∙ (drop_at (done ++ items) later (length (done ++ items)) refl ∙ (rest ∙ ap (λ (n : ℕ). drop n old) (sym size)));
    }

-- The same where the buffer holds just these items.
pub holds_more : {A : Type 0} (old mid new done items : List A) → Holds old mid done → length done + length items ≤ length old
    → new ≡ take (length done) mid ++ (items ++ drop (length done + length items) mid) → Holds old new (done ++ items)
holds_more {A = A} old mid new done items holds space is =
    holds_put old mid new done items space holds.front
    (sym (drop-drop (length items) (length done) mid) ∙ (ap (λ (xs : List A). drop (length items) xs) holds.rest ∙ drop-drop (length items) (length done) old)) is

-- A buffer holds no items, and its length stays.
pub holds_none : {A : Type 0} (old : List A) → Holds old old []
holds_none old = record { space = omega arith; front = refl; rest = refl }

pub same_length : {A : Type 0} (old new items : List A) → Holds old new items → length new ≡ length old
same_length {A = A} old new items holds =
    let front : min (length items) (length new) ≡ length items = sym (length-take (length items) new) ∙ ap (λ (xs : List A). length xs) holds.front in
    let rest : length new - length items ≡ length old - length items =
    sym (length-drop (length items) new) ∙ (ap (λ (xs : List A). length xs) holds.rest ∙ length-drop (length items) old) in
    let space = holds.space in omega arith

-- The last item is written again.
pub holds_last : {A : Type 0} (old mid new done : List A) (x y : A) → Holds old mid (done ++ x ∷ []) → new ≡ take (length done) mid ++ ((y ∷ []) ++ drop (length done + 1) mid) → Holds old new (done ++ y ∷ [])
holds_last {A = A} old mid new done x y holds is =
    let size : length (done ++ x ∷ []) ≡ length done + 1 = length-append done (x ∷ []) in
    let space : length (done ++ x ∷ []) ≤ length old = holds.space in
    let few : length done ≤ length (done ++ x ∷ []) = omega arith in
    let front : take (length done) mid ≡ done =
    sym (take-take (length done) (length (done ++ x ∷ [])) mid few)
    ∙ (ap (λ (xs : List A). take (length done) xs) holds.front ∙ take_at done (x ∷ []) (length done) refl) in
    let rest : drop (length done + 1) mid ≡ drop (length done + 1) old =
    ap (λ (n : ℕ). drop n mid) (sym size) ∙ (holds.rest ∙ ap (λ (n : ℕ). drop n old) size) in
    holds_put old mid new done (y ∷ []) (omega arith) front rest is
