use Rattle.std.proofs.Common.{◌≡◌, ◌+◌, ◌≤◌, ◌^◌, ◌∙◌, ◌++◌, ap, length, length-append, List, sym, subst, take, arith, ℕ}
use Rattle.std.proofs.lemmas.List.{length-set, take_all}
use Rattle.std.proofs.lemmas.List.Elements.{All-append}
use Rattle.std.specs.List.{All}
use Rattle.git_defs.specs.Vectors.{Vector, AllOfLength, units}
use Rattle.git_geometry.proofs.Units.{length-units}
use Rattle.git_canon.specs.Canons.{entries_of}
use Rattle.git_ints.specs.Padded.{AreWithin}
use Rattle.git_chamber.proofs.UnitGerms.{units_within, one_unit_more, of_length_units, first_entries}
use Rattle.git_chamber.proofs.germs.with_units.Goals as goal

pub loop-i-preserved : goal.loop-i-preserved
loop-i-preserved c = record {
  long = length-set c.loop-i.all (length c.args.front.now + c.loop-i.i) c.unit.result ∙ c.loop-i.invariant.long;
  value = one_unit_more c.args.k c.args.front.now c.loop-i.all c.loop-i.i c.unit.result c.requires.six c.requires.two c.loop-i.invariant.long c.loop-i-test.true c.loop-i.invariant.value c.unit.ensures;
}

whole : (k i : ℕ) (front all : List Vector) → k ≤ i → i ≤ k → take (length front + i) all ≡ front ++ take i (units k) → take (length front + k) all ≡ front ++ units k
whole k i front all low high e = let n = length-units k in let same : i ≡ k = omega arith in
    ap (λ m. take (length front + m) all) (sym same) ∙ e ∙ ap (λ (us : List Vector). front ++ us) (take_all i (units k) (omega (arith, n, low)))

pub of-requires-clause-lengths : goal.of-requires-clause-lengths
of-requires-clause-lengths c =
    let k = c.args.k in
    let front = c.args.front.now in
    let is = whole k c.loop-i.i front c.loop-i.all (omega (arith, c.loop-i-test.false)) (omega (arith, c.loop-i.auto.i-end)) c.loop-i.invariant.value in
    let all = of_length_units k front c.requires.lengths in
    subst (λ (vs : List Vector). AllOfLength (entries_of vs) vs) (sym is) (first_entries k (front ++ units k) (let n = length-append front (units k) in omega (arith, n, c.requires.some, c.requires.one)) all)

pub of-requires-clause-within : goal.of-requires-clause-within
of-requires-clause-within c =
    let k = c.args.k in
    let front = c.args.front.now in
    let is = whole k c.loop-i.i front c.loop-i.all (omega (arith, c.loop-i-test.false)) (omega (arith, c.loop-i.auto.i-end)) c.loop-i.invariant.value in
    subst (All (AreWithin (2 ^ 80))) (sym is) (All-append (AreWithin (2 ^ 80)) front (units k) c.requires.within (units_within k))

pub returns-clause-value : goal.returns-clause-value
returns-clause-value c =
    c.of.ensures ∙ whole c.args.k c.loop-i.i c.args.front.now c.loop-i.all (omega (arith, c.loop-i-test.false)) (omega (arith, c.loop-i.auto.i-end)) c.loop-i.invariant.value

pub returns-clause-lengths : goal.returns-clause-lengths
returns-clause-lengths c = subst (AllOfLength c.args.k) (sym (returns-clause-value c)) (of_length_units c.args.k c.args.front.now c.requires.lengths)
