use Rattle.std.proofs.Common.{◌≡◌, ◌∙◌, ◌+◌, ◌<◌, ◌++◌, [], ◌∷◌, ℕ, true, false, cond, drop, List, None, length, refl, ap, sym, subst, arith, rules}
use Rattle.std.specs.Prelude.{◌==◌}
use Rattle.std.proofs.lemmas.Bool.{cond-true, cond-false}
use Rattle.break_core.specs.declared.active_list.Live.{Live}
use Rattle.break_core.specs.Private.Active.{live_of}
use Rattle.break_core.specs.Private.Offers.{AreBestFor}
use Rattle.break_core.proofs.Lives.{last_pushed, last_replaced}
use Rattle.break_core.proofs.offering.add_entries.Goals as goal

pub returns-then-group-clause-groups : goal.returns-then-group-clause-groups
returns-then-group-clause-groups g c =
    let group = c.args.group in
    let live : Live = record { group = group; over = None; best = [] } in
    let lives : List Live = cond c.args.forced [] (live_of c.args.lives.now) in
    let none : group.start ≡ group.end = omega arith in (
      live,
      refl,
      refl,
      λ some. absurd (omega (arith, some, none)),
      c.remove_stopped.ensures.left ∙ sym (cond-true (group.start == group.end) lives (lives ++ live ∷ []) (same group.start group.end none)),
    )
  where
    same : (a b : ℕ) → a ≡ b → (a == b) ≡ true
    same a b is = grind arith

pub complete_offers-requires-clause-first : goal.complete_offers-requires-clause-first
complete_offers-requires-clause-first g c = λ none.
    let items = c.remove_stopped.new.lives.list.items in
    let number : c.len-number.result ≡ length items = search rules in
    let same : c.index_mut.result.now ≡ c.first_live-live.result =
    last_pushed items c.push.new.self.items c.len-number.result c.first_live-live.result c.index_mut.result.now c.in_ok-push.ensures.items number
    c.index_mut.ensures.value in
    subst (λ (x : Live). AreBestFor c.args.table.now c.args.params.now c.args.group.start (c.args.group.start + 1) x.best) (sym same)
    (c.first_live-live.ensures.first none)

pub returns-clause-groups : goal.returns-clause-groups
returns-clause-groups g c =
    let group = c.args.group in
    let items = c.remove_stopped.new.lives.list.items in
    let first = c.remove_stopped.new.lives.first in
    let found = c.index_mut.result.now in
    let best = c.complete_offers.new.best in
    let number : c.len-number.result ≡ length items = search rules in
    let same : found ≡ c.first_live-live.result =
    last_pushed items c.push.new.self.items c.len-number.result c.first_live-live.result found c.in_ok-push.ensures.items number c.index_mut.ensures.value in
    let live : Live = record { group = group; over = None; best = best } in
    let put : Live = record { group = found.group; over = found.over; best = best } in
    let is : put ≡ live =
    ap (λ x. record { group = x; over = found.over; best = best }) (ap (λ (x : Live). x.group) same ∙ c.first_live-live.ensures.group)
    ∙ ap (λ x. record { group = group; over = x; best = best }) (ap (λ (x : Live). x.over) same ∙ c.first_live-live.ensures.over) in
    let lives : List Live = cond c.args.forced [] (live_of c.args.lives.now) in
    let some : group.start < group.end = omega (arith, c.requires.rises) in (
      live,
      refl,
      refl,
      λ _. c.complete_offers.ensures,
      last_replaced items c.push.new.self.items first c.len-number.result c.first_live-live.result put c.in_ok-push.ensures.items number
          c.remove_stopped.ensures.first_bounded
          ∙ ap (λ x. drop first items ++ x ∷ []) is
          ∙ ap (λ xs. xs ++ live ∷ []) c.remove_stopped.ensures.left
          ∙ sym (cond-false (group.start == group.end) lives (lives ++ live ∷ []) (apart group.start group.end some)),
    )
  where
    apart : (a b : ℕ) → a < b → (a == b) ≡ false
    apart a b less = grind arith
