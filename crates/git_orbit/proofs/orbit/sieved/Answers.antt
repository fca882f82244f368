use Rattle.std.proofs.Common.{◌≡◌, ◌+◌, ◌-◌, ℕ, Vec, Global, Bool, true, length, get_or, ap, subst, sym, ◌∙◌, arith}
use Rattle.git_orbit.proofs.Sieves.{sieve_skip}
use Rattle.git_orbit.specs.Orbits.{Sieved}
use Rattle.git_orbit.specs.declared.orbit.OrbitCone.{OrbitCone}
use Rattle.git_orbit.proofs.orbit.sieved.Goals.{then-not-is_seen+in_ok-add_one, else-not-is_seen}
use Rattle.git_orbit.proofs.orbit.sieved.Goals as goal

pub loop-j-preserved : goal.loop-j-preserved
loop-j-preserved c =
    let k = c.args.k in
    let Q = c.args.columns.now in
    let masks = c.args.masks.now in
    let i = length masks - (c.loop-j.j + 1) in
    let e : length masks - 1 - c.loop-j.j ≡ i = omega arith in
    let f : length masks - c.loop-j.j ≡ i + 1 = omega (arith, c.loop-j-test.true) in
    elim c.if-not-is_seen.branch [
      | then-not-is_seen+in_ok-add_one w ↦ subst (λ (v : Vec Bool Global). Sieved k Q masks i v.items c.if-not-is_seen.list.items) (sym w.seen-is)
          (subst (λ (v : Vec OrbitCone Global). Sieved k Q masks i w.add_one.new.seen.items v.items) (sym w.list-is) (subst (λ (n : ℕ). Sieved k Q masks n w.add_one.new.seen.items w.add_one.new.list.items) e w.in_ok-add_one.ensures.done))
      | else-not-is_seen w ↦ subst (λ (v : Vec Bool Global). Sieved k Q masks i v.items c.if-not-is_seen.list.items) (sym w.seen-is)
          (subst (λ (v : Vec OrbitCone Global). Sieved k Q masks i c.loop-j.seen.items v.items) (sym w.list-is)
          (sieve_skip k Q masks c.requires.faces i c.loop-j.seen.items c.loop-j.list.items (subst (λ (n : ℕ). Sieved k Q masks n c.loop-j.seen.items c.loop-j.list.items) f c.loop-j.invariant)
          (ap (λ (n : ℕ). get_or c.loop-j.seen.items n true) (sym e) ∙ sym c.is_seen.ensures ∙ w.if-not-is_seen.false)))
    ]

pub add_one-requires-clause-sieved : goal.add_one-requires-clause-sieved
add_one-requires-clause-sieved c =
    let masks = c.args.masks.now in
    let f : length masks - c.loop-j.j ≡ length masks - 1 - c.loop-j.j + 1 = omega (arith, c.loop-j-test.true) in
    subst (λ (n : ℕ). Sieved c.args.k c.args.columns.now masks n c.loop-j.seen.items c.loop-j.list.items) f c.loop-j.invariant
