-- Known bytes that grow piece by piece.
use Rattle.std.proofs.Common.{ℕ, ◌+◌, List, [], ◌++◌, take, drop, ◌⊎◌, inl, inr, Result, Ok, Err, OnOk, OnErr, ap, subst, sym, ◌∙◌, append_assoc}
use Rattle.std.specs.Prelude.{Option, Some, None}
use Rattle.std.proofs.Math.Seq.{take-add}
use Rattle.std.specs.Io.KnownBytes.{Appends, Keeps}
use Rattle.std.proofs.lemmas.List.{append-nil}
use Rattle.boxglue_program.specs.Runs.{WritesFront}

-- One text after another.
pub appends_both : (old mid new : Option (List ℕ)) (a b : List ℕ) → Appends old mid a → Appends mid new b → Appends old new (a ++ b)
appends_both None mid new a b h i = tt
appends_both (Some xs) None new a b h i = absurd h
appends_both (Some xs) (Some ys) None a b h i = absurd i
appends_both (Some xs) (Some ys) (Some zs) a b h i = i ∙ ap (λ (l : List ℕ). l ++ b) h ∙ append_assoc xs a b

-- A text, and then nothing.
pub appends_keeps : (old mid new : Option (List ℕ)) (a : List ℕ) → Appends old mid a → Keeps mid new → Appends old new a
appends_keeps None mid new a h i = tt
appends_keeps (Some xs) None new a h i = absurd h
appends_keeps (Some xs) (Some ys) None a h i = absurd i
appends_keeps (Some xs) (Some ys) (Some zs) a h i = i ∙ h

-- Nothing, and then a text.
pub keeps_appends : (old mid new : Option (List ℕ)) (a : List ℕ) → Keeps old mid → Appends mid new a → Appends old new a
keeps_appends None mid new a h i = tt
keeps_appends (Some xs) None new a h i = absurd h
keeps_appends (Some xs) (Some ys) None a h i = absurd i
keeps_appends (Some xs) (Some ys) (Some zs) a h i = i ∙ ap (λ (l : List ℕ). l ++ a) h

-- Bytes that stay as they were have grown by nothing.
pub keeps_none : (old new : Option (List ℕ)) → Keeps old new → Appends old new []
keeps_none None new h = tt
keeps_none (Some xs) None h = absurd h
keeps_none (Some xs) (Some ys) h = h ∙ sym (append-nil xs)

pub ruleset nothing_written = (keeps_none)

-- A text, and then the empty text.
pub appends_no_more : (old mid new : Option (List ℕ)) (a : List ℕ) → Appends old mid a → Appends mid new [] → Appends old new a
appends_no_more old mid new a h i = let P : List ℕ → Type 0 = λ xs. Appends old new xs in subst P (append-nil a) (appends_both old mid new a [] h i)

-- A line was written, or a beginning of it.
pub either_way : {A E : Type 0} {P Q : Type 0} (r : Result A E) → OnOk r P → OnErr r Q → P ⊎ Q
either_way (Ok x) p q = inl p
either_way (Err e) p q = inr q

-- Further n bytes of a text, from place s on.
pub appends_more : (old mid new : Option (List ℕ)) (xs : List ℕ) (s n : ℕ) → Appends old mid (take s xs) → Appends mid new (take n (drop s xs)) → Appends old new (take (s + n) xs)
appends_more old mid new xs s n h i = rw (take-add s n xs) (appends_both old mid new (take s xs) (take n (drop s xs)) h i)

-- Nothing, and then a beginning of a text.
pub keeps_front : (old mid new : Option (List ℕ)) (a : List ℕ) → Keeps old mid → WritesFront mid new a → WritesFront old new a
keeps_front old mid new a h front = (front.0, front.1, keeps_appends old mid new (take front.0 a) h front.2)
