-- Rows that are written one after the other (own).
use Rattle.std.proofs.Common.{◌≡◌, ◌+◌, ◌≤◌, ◌<◌, ◌++◌, ◌∷◌, ℕ, suc, List, [], length, take, drop, set, refl, sym, ap, ◌∙◌, subst, arith}
use Rattle.std.proofs.lemmas.List.{take_all}
use Rattle.std.proofs.Math.Seq.{drop-append_seam, take-append_seam}
use Rattle.job_machine.specs.Reply.{Reply}
use Rattle.boxglue_script.specs.declared.script.Line.{Line}
use Rattle.job_core.specs.Jobs.{JobView, RunsTo}
use Rattle.boxglue_program.specs.Runs.{commands_of, line_numbers}
use Rattle.boxglue_calls.specs.Buffers.{Holds}
use Rattle.boxglue_calls.specs.RunStatus.{replies_status}
use Rattle.boxglue_calls.specs.Rows.{reply_row, reply_rows}
use Rattle.boxglue_calls.specs.declared.jobs.rows.ReplyRow.{ReplyRow}

-- One more item behind those that a buffer holds.
put_next : {A : Type 0} (items old : List A) (x : A) → length items < length old
    → set (items ++ drop (length items) old) (length items) x ≡ (items ++ x ∷ []) ++ drop (suc (length items)) old
put_next [] [] x h = absurd (omega (arith, h))
put_next [] (o ∷ old) x h = refl
put_next (y ∷ items) [] x h = absurd (omega (arith, h))
put_next {A = A} (y ∷ items) (o ∷ old) x h = ap (λ (rest : List A). y ∷ rest) (put_next items old x (omega (arith, h)))

-- The rows of some replies and one more.
pub rows_more : (lines : List Line) (replies : List Reply) (line : Line) (reply : Reply) → length replies ≡ length lines
    → reply_rows (line_numbers (lines ++ line ∷ [])) (replies ++ reply ∷ []) ≡ reply_rows (line_numbers lines) replies ++ reply_row line.number reply ∷ []
rows_more [] [] line reply h = refl
rows_more [] (first ∷ replies) line reply h = absurd (omega arith)
rows_more (front ∷ lines) [] line reply h = absurd (omega arith)
rows_more (front ∷ lines) (first ∷ replies) line reply h =
    ap (λ (rest : List ReplyRow). reply_row front.number first ∷ rest) (rows_more lines replies line reply (omega (arith, h)))

pub length_rows : (lines : List Line) (replies : List Reply) → length replies ≡ length lines → length (reply_rows (line_numbers lines) replies) ≡ length lines
length_rows [] [] h = refl
length_rows [] (first ∷ replies) h = absurd (omega arith)
length_rows (front ∷ lines) [] h = absurd (omega arith)
length_rows (front ∷ lines) (first ∷ replies) h = ap suc (length_rows lines replies (omega (arith, h)))

-- Rows that fill the front of a buffer, and the rest of it.
pub row_put : (old now : List ReplyRow) (front more : List Line) (line : Line) (replies : List Reply) (reply : Reply) (i : ℕ) (row : ReplyRow) → more ≡ front ++ line ∷ []
    → length replies ≡ length front → i ≡ length front → i < length old → row ≡ reply_row line.number reply → now ≡ reply_rows (line_numbers front) replies ++ drop i old
    → set now i row ≡ reply_rows (line_numbers more) (replies ++ reply ∷ []) ++ drop (i + 1) old
row_put old now front more line replies reply i row is each at within row_is now_is =
    let items : List ReplyRow = reply_rows (line_numbers front) replies in
    let size : length items ≡ i = length_rows front replies each ∙ sym at in
    let space : length items < length old = omega (arith, size, within) in
    let next : suc (length items) ≡ length items + 1 = omega arith in
    let Q : ℕ → Type 0 = λ n. set (items ++ drop (length items) old) (length items) (reply_row line.number reply) ≡ (items ++ reply_row line.number reply ∷ []) ++ drop n old in
    let put = subst Q next (put_next items old (reply_row line.number reply) space) in
    let rows : items ++ reply_row line.number reply ∷ [] ≡ reply_rows (line_numbers more) (replies ++ reply ∷ []) =
    sym (rows_more front replies line reply each) ∙ ap (λ (ls : List Line). reply_rows (line_numbers ls) (replies ++ reply ∷ [])) (sym is) in
    let done : set (items ++ drop (length items) old) (length items) (reply_row line.number reply) ≡ reply_rows (line_numbers more) (replies ++ reply ∷ []) ++ drop (length items + 1) old =
    put ∙ ap (λ (xs : List ReplyRow). xs ++ drop (length items + 1) old) rows in
    let R : ℕ → Type 0 = λ n. set (items ++ drop n old) n (reply_row line.number reply) ≡ reply_rows (line_numbers more) (replies ++ reply ∷ []) ++ drop (n + 1) old in
    ap (λ (xs : List ReplyRow). set xs i row) now_is
    ∙ (ap (λ (r : ReplyRow). set (items ++ drop i old) i r) row_is ∙ subst R size done)

-- A buffer that begins with these items, and has what it had after them, holds them.
pub holds_front : {A : Type 0} (old new items : List A) → length items ≤ length old → new ≡ items ++ drop (length items) old → Holds old new items
holds_front {A = A} old new items space is = record {
  space = space;
  front = ap (λ (xs : List A). take (length items) xs) is ∙ take-append_seam items (drop (length items) old);
  rest = ap (λ (xs : List A). drop (length items) xs) is ∙ drop-append_seam items (drop (length items) old);
}

-- All lines were run, and their rows fill the front of the buffer.
pub all_replied : (old new : JobView) (lines ran : List Line) (replies : List Reply) (rows_old rows_new : List ReplyRow) (i status : ℕ) → ran ≡ lines → i ≡ length lines
    → length lines ≤ length rows_old → RunsTo old (commands_of ran) replies new → length replies ≡ length ran → rows_new ≡ reply_rows (line_numbers ran) replies ++ drop i rows_old
    → status ≡ replies_status replies
    → (replies : List Reply) × RunsTo old (commands_of lines) replies new × (length replies ≡ length lines) × Holds rows_old rows_new (reply_rows (line_numbers lines) replies)
    × (status ≡ replies_status replies)
all_replied old new lines ran replies rows_old rows_new i status all at space runs each rows_is status_is =
    let items : List ReplyRow = reply_rows (line_numbers lines) replies in
    let same : length replies ≡ length lines = each ∙ ap length all in
    let size : length items ≡ length lines = length_rows lines replies same in
    let is : rows_new ≡ items ++ drop (length items) rows_old =
    rows_is ∙ (ap (λ (ls : List Line). reply_rows (line_numbers ls) replies ++ drop i rows_old) all ∙ ap (λ (n : ℕ). items ++ drop n rows_old) (at ∙ sym size)) in (
      replies,
      subst (λ (ls : List Line). RunsTo old (commands_of ls) replies new) all runs,
      same,
      holds_front rows_old rows_new items (omega (arith, size, space)) is,
      status_is,
    )

-- A buffer that has just space for the items that it holds is these items.
pub filled : {A : Type 0} (old new items : List A) → length old ≡ length items → length new ≡ length old → Holds old new items → new ≡ items
filled old new items space size holds = sym (take_all (length items) new (omega (arith, space, size))) ∙ holds.front
