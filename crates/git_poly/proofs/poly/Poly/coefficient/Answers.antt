use Rattle.std.proofs.Common.{rules, ap, sym, subst, ◌∙◌, ◌≡◌, ◌<◌, length, List}
use Rattle.std.specs.declared.cmp.Ordering.TheVariants.{Equal}
use Rattle.std.specs.List.{HoldsAt}
use Rattle.std.proofs.lemmas.Fn.{always_returns_same}
use Rattle.git_algebra.specs.Sums.{Sum, coefficient}
use Rattle.git_algebra.specs.Polynomials.{Proper}
use Rattle.git_algebra.proofs.Normal.{terms_is}
use Rattle.git_poly.specs.declared.term.Term.{Term}
use Rattle.git_poly.specs.Terms.{sum_of}
use Rattle.git_poly.proofs.Searching.{compared, answers_rise, found_number, found_nothing}
use Rattle.git_poly.proofs.poly.Poly.coefficient.Goals as goal

pub returns-in-Ok : goal.returns-in-Ok
returns-in-Ok c =
    let m = c.args.m.now in
    let x = c.index.result.now in
    let found = c.in-Ok.ensures.position (compared c.args.m.now) (always_returns_same _ _ _ (λ a r g called. (search rules, search rules))) in
    let within : c.in-Ok.i < length c.self.inside.terms.items = subst (λ (ts : List Term). c.in-Ok.i < length ts) c.deref.ensures.value c.in-Ok.ensures.bound in
    let equal = subst (λ (ts : List Term). HoldsAt (λ t. compared m t ≡ Equal) ts c.in-Ok.i) c.deref.ensures.value found in
    ap (λ (t : Term). t.number) c.index.ensures
    ∙ found_number m c.self.inside.terms.items c.in-Ok.i x c.self.invariant within equal
    ∙ ap (λ (p : Sum). coefficient p m) (sym (terms_is _ _ c.self.invariant c.self.view_is))

pub returns-in-Err : goal.returns-in-Err
returns-in-Err c =
    let m = c.args.m.now in
    let found = c.in-Err.ensures.position (compared c.args.m.now) (always_returns_same _ _ _ (λ a r g called. (search rules, search rules))) in
    let nothing : coefficient (sum_of c.deref.result.now) m ≡ 0 =
    found_nothing m c.deref.result.now c.in-Err.field-0 (found (answers_rise m c.deref.result.now (subst (λ (ts : List Term). Proper (sum_of ts)) (sym c.deref.ensures.value) c.self.invariant))) in
    c.reduce.ensures
    ∙ sym nothing
    ∙ ap (λ (ts : List Term). coefficient (sum_of ts) m) c.deref.ensures.value
    ∙ ap (λ (p : Sum). coefficient p m) (sym (terms_is _ _ c.self.invariant c.self.view_is))
