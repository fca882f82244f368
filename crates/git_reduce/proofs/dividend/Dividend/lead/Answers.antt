use Rattle.std.proofs.Common.{sym, subst, arith, length, slice_get, ◌≡◌, ◌-◌, ℕ, Some, Option, Bor}
use Rattle.std.specs.Prelude.{IfSome}
use Rattle.git_algebra.specs.Exponents.{Exponents}
use Rattle.git_algebra.specs.Operations.{lead_of}
use Rattle.git_reduce.proofs.TermMaps.{no_entries, lead_of_entries}
use Rattle.git_reduce.proofs.dividend.Dividend.lead.Goals as goal

pub returns-then-len-eq0 : goal.returns-then-len-eq0
returns-then-len-eq0 c = sym (no_entries c.self.inside.terms.entries c.args.self.now (omega (arith, c.len.ensures.len, c.if-len-eq0.true)) c.self.view_is)

pub returns : goal.returns
returns c =
    let es = c.self.inside.terms.entries in
    let last = c.unwrap-last.result in
    let here : slice_get c.self.inside.terms.entries (length c.self.inside.terms.entries - 1) ≡ Some (c.unwrap-last.result.0.now, c.unwrap-last.result.1.now) =
    subst (λ (o : Option (Bor Exponents × Bor ℕ)). IfSome o (λ p. slice_get c.self.inside.terms.entries (length c.self.inside.terms.entries - 1) ≡ Some (p.0.now, p.1.now))) c.unwrap-last.ensures c.last_key_value.ensures.last in
    sym (subst (λ p. lead_of p ≡ Some (c.unwrap-last.result.0.now, c.unwrap-last.result.1.now)) c.self.view_is
    (lead_of_entries c.self.inside.terms.entries (length c.self.inside.terms.entries - 1) (c.unwrap-last.result.0.now, c.unwrap-last.result.1.now) (omega (arith, c.len.ensures.len, c.if-len-eq0.false)) c.len.ensures.ordered c.self.invariant here))
