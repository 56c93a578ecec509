use Rattle.std.proofs.Common.{◌≡◌, ◌∙◌, length, refl, ap, sym}
use Rattle.std.proofs.lemmas.Option.{same_Some, slice_get_read}
use Rattle.break_core.proofs.Offers.{tie_first, tie_same}
use Rattle.break_core.proofs.row.wins_tie.Goals as goal

pub returns-in-Less-clause-yes : goal.returns-in-Less-clause-yes
returns-in-Less-clause-yes c = λ _ e f at_e at_f.
    let table = c.args.table.now in
    let a = c.index-table-first.result in
    let b = c.index-table-second.result in
    let is_a : a ≡ e = same_Some a e (sym (slice_get_read table (length table) c.args.first a refl c.requires.first_bounded c.index-table-first.is) ∙ at_e) in
    let is_b : b ≡ f = same_Some b f (sym (slice_get_read table (length table) c.args.second b refl c.requires.second_bounded c.index-table-second.is) ∙ at_f) in
    tie_first c.end.result c.end-2.result e.end f.end (c.in-Less.ensures.less refl) (c.end.ensures.end ∙ ap (λ x. x.end) is_a)
    (c.end-2.ensures.end ∙ ap (λ x. x.end) is_b)

pub returns-in-Greater-clause-no : goal.returns-in-Greater-clause-no
returns-in-Greater-clause-no c = λ _ e f at_e at_f.
    let table = c.args.table.now in
    let a = c.index-table-first.result in
    let b = c.index-table-second.result in
    let is_a : a ≡ e = same_Some a e (sym (slice_get_read table (length table) c.args.first a refl c.requires.first_bounded c.index-table-first.is) ∙ at_e) in
    let is_b : b ≡ f = same_Some b f (sym (slice_get_read table (length table) c.args.second b refl c.requires.second_bounded c.index-table-second.is) ∙ at_f) in
    tie_first c.end-2.result c.end.result f.end e.end (c.in-Greater.ensures.greater refl) (c.end-2.ensures.end ∙ ap (λ x. x.end) is_b)
    (c.end.ensures.end ∙ ap (λ x. x.end) is_a)

pub returns-in-Equal-clause-yes : goal.returns-in-Equal-clause-yes
returns-in-Equal-clause-yes c = λ _ e f at_e at_f.
    let table = c.args.table.now in
    let a = c.index-table-first.result in
    let b = c.index-table-second.result in
    let is_a : a ≡ e = same_Some a e (sym (slice_get_read table (length table) c.args.first a refl c.requires.first_bounded c.index-table-first.is) ∙ at_e) in
    let is_b : b ≡ f = same_Some b f (sym (slice_get_read table (length table) c.args.second b refl c.requires.second_bounded c.index-table-second.is) ∙ at_f) in
    tie_same e.end f.end (sym (c.end.ensures.end ∙ ap (λ x. x.end) is_a) ∙ c.in-Equal.ensures.equal refl ∙ c.end-2.ensures.end ∙ ap (λ x. x.end) is_b)
