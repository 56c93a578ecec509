use Rattle.std.proofs.Common.{◌≡◌, ◌∙◌, refl, ap, sym, arith}
use Rattle.std.proofs.lemmas.Int.{ints}
use Rattle.break_lines.proofs.Comparing.{first_demerits, first_end, first_from, first_same}
use Rattle.break_lines.proofs.entry.Entry.is_not_after.Goals as goal

pub returns-then-self-other-3-clause-not_after : goal.returns-then-self-other-3-clause-not_after
returns-then-self-other-3-clause-not_after c = λ _.
    let so : c.self.inside.overhang ≡ c.args.self.overhang = ap (λ e. e.overhang) c.self.view_is in
    let oo : c.other.inside.overhang ≡ c.args.other.overhang = ap (λ e. e.overhang) c.other.view_is in
    let sd : c.self.inside.demerits ≡ c.args.self.demerits = ap (λ e. e.demerits) c.self.view_is in
    let od : c.other.inside.demerits ≡ c.args.other.demerits = ap (λ e. e.demerits) c.other.view_is in
    first_demerits c.args.self c.args.other (omega (arith, ints)) (omega (arith, ints))

pub returns-then-self-other-4-clause-after : goal.returns-then-self-other-4-clause-after
returns-then-self-other-4-clause-after c = λ _.
    let so : c.self.inside.overhang ≡ c.args.self.overhang = ap (λ e. e.overhang) c.self.view_is in
    let oo : c.other.inside.overhang ≡ c.args.other.overhang = ap (λ e. e.overhang) c.other.view_is in
    let sd : c.self.inside.demerits ≡ c.args.self.demerits = ap (λ e. e.demerits) c.self.view_is in
    let od : c.other.inside.demerits ≡ c.args.other.demerits = ap (λ e. e.demerits) c.other.view_is in
    first_demerits c.args.other c.args.self (omega (arith, ints)) (omega (arith, ints))

pub returns-in-Less-clause-not_after : goal.returns-in-Less-clause-not_after
returns-in-Less-clause-not_after c = λ _.
    let so : c.self.inside.overhang ≡ c.args.self.overhang = ap (λ e. e.overhang) c.self.view_is in
    let oo : c.other.inside.overhang ≡ c.args.other.overhang = ap (λ e. e.overhang) c.other.view_is in
    let sd : c.self.inside.demerits ≡ c.args.self.demerits = ap (λ e. e.demerits) c.self.view_is in
    let od : c.other.inside.demerits ≡ c.args.other.demerits = ap (λ e. e.demerits) c.other.view_is in
    first_end c.args.self c.args.other c.self.inside.end c.other.inside.end (omega (arith, ints)) (omega (arith, ints)) (ap (λ e. e.end) c.self.view_is) (ap (λ e. e.end) c.other.view_is) (c.in-Less.ensures.less refl)

pub returns-in-Greater-clause-after : goal.returns-in-Greater-clause-after
returns-in-Greater-clause-after c = λ _.
    let so : c.self.inside.overhang ≡ c.args.self.overhang = ap (λ e. e.overhang) c.self.view_is in
    let oo : c.other.inside.overhang ≡ c.args.other.overhang = ap (λ e. e.overhang) c.other.view_is in
    let sd : c.self.inside.demerits ≡ c.args.self.demerits = ap (λ e. e.demerits) c.self.view_is in
    let od : c.other.inside.demerits ≡ c.args.other.demerits = ap (λ e. e.demerits) c.other.view_is in
    first_end c.args.other c.args.self c.other.inside.end c.self.inside.end (omega (arith, ints)) (omega (arith, ints)) (ap (λ e. e.end) c.other.view_is) (ap (λ e. e.end) c.self.view_is) (c.in-Greater.ensures.greater refl)

pub returns-in-Less-order-clause-not_after : goal.returns-in-Less-order-clause-not_after
returns-in-Less-order-clause-not_after c = λ _.
    let so : c.self.inside.overhang ≡ c.args.self.overhang = ap (λ e. e.overhang) c.self.view_is in
    let oo : c.other.inside.overhang ≡ c.args.other.overhang = ap (λ e. e.overhang) c.other.view_is in
    let sd : c.self.inside.demerits ≡ c.args.self.demerits = ap (λ e. e.demerits) c.self.view_is in
    let od : c.other.inside.demerits ≡ c.args.other.demerits = ap (λ e. e.demerits) c.other.view_is in
    let se = ap (λ e. e.end) c.self.view_is in
    let oe = ap (λ e. e.end) c.other.view_is in
    let sf = ap (λ e. e.from) c.self.view_is in
    let of = ap (λ e. e.from) c.other.view_is in
    first_from c.args.self c.args.other c.self.inside.from c.other.inside.from (omega (arith, ints)) (omega (arith, ints)) (sym se ∙ c.in-Equal.ensures.equal refl ∙ oe) sf of
    (c.in-Less-order.ensures.less refl)

pub returns-in-Greater-order-clause-after : goal.returns-in-Greater-order-clause-after
returns-in-Greater-order-clause-after c = λ _.
    let so : c.self.inside.overhang ≡ c.args.self.overhang = ap (λ e. e.overhang) c.self.view_is in
    let oo : c.other.inside.overhang ≡ c.args.other.overhang = ap (λ e. e.overhang) c.other.view_is in
    let sd : c.self.inside.demerits ≡ c.args.self.demerits = ap (λ e. e.demerits) c.self.view_is in
    let od : c.other.inside.demerits ≡ c.args.other.demerits = ap (λ e. e.demerits) c.other.view_is in
    let se = ap (λ e. e.end) c.self.view_is in
    let oe = ap (λ e. e.end) c.other.view_is in
    let sf = ap (λ e. e.from) c.self.view_is in
    let of = ap (λ e. e.from) c.other.view_is in
    first_from c.args.other c.args.self c.other.inside.from c.self.inside.from (omega (arith, ints)) (omega (arith, ints)) (sym oe ∙ sym (c.in-Equal.ensures.equal refl) ∙ se) of sf
    (c.in-Greater-order.ensures.greater refl)

pub returns-in-Equal-order-clause-not_after : goal.returns-in-Equal-order-clause-not_after
returns-in-Equal-order-clause-not_after c = λ _.
    let so : c.self.inside.overhang ≡ c.args.self.overhang = ap (λ e. e.overhang) c.self.view_is in
    let oo : c.other.inside.overhang ≡ c.args.other.overhang = ap (λ e. e.overhang) c.other.view_is in
    let sd : c.self.inside.demerits ≡ c.args.self.demerits = ap (λ e. e.demerits) c.self.view_is in
    let od : c.other.inside.demerits ≡ c.args.other.demerits = ap (λ e. e.demerits) c.other.view_is in
    let se = ap (λ e. e.end) c.self.view_is in
    let oe = ap (λ e. e.end) c.other.view_is in
    let sf = ap (λ e. e.from) c.self.view_is in
    let of = ap (λ e. e.from) c.other.view_is in
    first_same c.args.self c.args.other (omega (arith, ints)) (omega (arith, ints)) (sym se ∙ c.in-Equal.ensures.equal refl ∙ oe) (sym sf ∙ c.in-Equal-order.ensures.equal refl ∙ of)
