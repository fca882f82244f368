use Rattle.std.proofs.Common.{◌≡◌, ◌∙◌, ◌<◌, arith, inl, inr, length, sym, subst}
use Rattle.std.proofs.lemmas.Bool.{cases_lt}
use Rattle.git_bunch.specs.Stable.{IsNumberOf}
use Rattle.git_bunch.proofs.Columns.{number_here, untrue}
use Rattle.git_bunch.proofs.numbers.number_of.Goals as goal

pub has_cone-requires-clause-entries : goal.has_cone-requires-clause-entries
has_cone-requires-clause-entries c = c.cone_at.ensures.entries ∙ c.requires.entries ∙ sym c.k-k.ensures.value

pub loop-i-preserved : goal.loop-i-preserved
loop-i-preserved c = λ n low is.
    let fan = c.args.cones.now in
    let Q = c.args.g.now.columns in
    let i = c.loop-i.i in
    let count = c.cone_count-i-end.ensures.value in
    let here : i < length fan.list = omega (arith, count, c.loop-i-test.true) in
    let by = number_here fan Q c.columns-columns.result.now c.cone_at.result.now.facets c.k-k.result c.args.mask i (c.k-k.ensures.value ∙ sym c.requires.entries) c.columns-columns.ensures c.cone_at.ensures.facets here in
    elim (cases_lt n i) [
      | inl below ↦ c.loop-i.invariant n below is
      | inr there ↦
          let e : n ≡ i = omega (arith, low, there) in
          let found = c.has_cone.ensures.1 (by.1 (subst (IsNumberOf fan Q c.args.mask) e is)) in
          let lost = c.if-has_cone.false in
          absurd (untrue (sym lost ∙ found))
    ]

pub returns : goal.returns
returns c = λ n is. c.loop-i.invariant n (let low = is.in_range in let count = c.cone_count-i-end.ensures.value in omega (arith, low, count, c.loop-i-test.false)) is
