use Rattle.std.proofs.Common.{◌≡◌, ◌∙◌, All, List, ap, arith, length, map, subst, sym}
use Rattle.std.specs.List.{AllZip}
use Rattle.git_machine.specs.Signatures.{Signature}
use Rattle.git_machine.specs.declared.successors.Found.{Found}
use Rattle.git_orbit.specs.Orbits.{Fan}
use Rattle.git_orbit.proofs.Signatures.{one_signature}
use Rattle.git_listing.specs.Views.{chamber_of}
use Rattle.git_chamber.specs.Views.{FanChamber}
use Rattle.git_chamber.proofs.Facets.{fan_seen}
use Rattle.git_chamber.specs.Chambers.{first_germ}
use Rattle.git_chamber.specs.declared.cell.Cell.{Cell}
use Rattle.git_assemble.specs.Assembling.{AllGood, IsAssembleFault}
use Rattle.git_assemble.specs.Making.{IsFirstFault, IsMade, IsNumbering, IsReady, good_cells, payloads_of, signatures_in}
use Rattle.git_assemble.proofs.Assembled.{Assembles, assembles, fault_is, listing_is, ready_all}
use Rattle.git_assemble.proofs.Reaching.{good_of}
use Rattle.git_assemble.proofs.assembling.assemble.Goals as goal

pub returns-in-Err-clause-fault : goal.returns-in-Err-clause-fault
returns-in-Err-clause-fault c = λ first is.
    let g = c.args.graph.now in
    let same : c.requires.0 ≡ first = one_signature g.fan (first_germ g.fan.k g.columns) c.requires.0 first c.requires.1 is in
    let fault : IsFirstFault c.args.closed.now.found.items c.in-Err.fault = subst (λ (l : List (Found Cell)). IsFirstFault l c.in-Err.fault) c.deref.ensures.value c.in-Err.ensures.fault in
    subst (λ (s : Signature). IsAssembleFault g.fan s c.in-Err.fault) same (fault_is g.fan c.requires.0 c.args.closed.now.found.items c.in-Err.fault c.requires.2 fault)

pub numbers_of-requires : goal.numbers_of-requires
numbers_of-requires c =
    let g = c.args.graph.now in
    let good : payloads_of c.args.closed.now.found.items ≡ good_cells c.in-Ok.chambers.items = subst (λ (l : List (Found Cell)). payloads_of l ≡ good_cells c.in-Ok.chambers.items) c.deref.ensures.value c.in-Ok.ensures.good in
    let ok = assembles g.fan (fan_seen (c.cones.view_is ∙ c.cones-cones.ensures) c.cones.invariant.fan) c.requires.0 c.args.closed.now.found.items c.in-Ok.chambers.items c.sorted-chambers.result.items c.requires.2 good c.sorted-chambers.ensures.same c.sorted-chambers.ensures.sorted in
    record { few = let e = ap length c.deref-2.ensures.value in let few = ok.few in omega (arith, e, few) }

pub listed_all-requires : goal.listed_all-requires
listed_all-requires c =
    let back : c.sorted-chambers.result.items ≡ c.deref-3.result.now = sym c.deref-3.ensures.value in
    let g = c.args.graph.now in
    let cs : List FanChamber = c.sorted-chambers.result.items in
    let good : payloads_of c.args.closed.now.found.items ≡ good_cells c.in-Ok.chambers.items = subst (λ (l : List (Found Cell)). payloads_of l ≡ good_cells c.in-Ok.chambers.items) c.deref.ensures.value c.in-Ok.ensures.good in
    let ok = assembles g.fan (fan_seen (c.cones.view_is ∙ c.cones-cones.ensures) c.cones.invariant.fan) c.requires.0 c.args.closed.now.found.items c.in-Ok.chambers.items cs c.requires.2 good c.sorted-chambers.ensures.same c.sorted-chambers.ensures.sorted in
    let numbers : IsNumbering (signatures_in cs) c.in_ok-numbers.numbers = subst (λ (l : List FanChamber). IsNumbering (signatures_in l) c.in_ok-numbers.numbers) c.deref-2.ensures.value c.in_ok-numbers.ensures in
    record {
      numbers = subst (λ (l : List FanChamber). IsNumbering (signatures_in l) c.in_ok-numbers.numbers) back numbers;
      ready = subst (λ (l : List FanChamber). All (IsReady c.cones-cones.result.now c.in_ok-numbers.numbers) l) back
          (subst (λ (f : Fan). All (IsReady f c.in_ok-numbers.numbers) cs) (sym c.cones-cones.ensures) (ready_all g.fan c.requires.0 cs c.in_ok-numbers.numbers c.requires.2.legal ok numbers));
    }

pub returns-clause-listing : goal.returns-clause-listing
returns-clause-listing c = λ first is.
    let g = c.args.graph.now in
    let same : c.requires.0 ≡ first = one_signature g.fan (first_germ g.fan.k g.columns) c.requires.0 first c.requires.1 is in
    let cs : List FanChamber = c.sorted-chambers.result.items in
    let good : payloads_of c.args.closed.now.found.items ≡ good_cells c.in-Ok.chambers.items = subst (λ (l : List (Found Cell)). payloads_of l ≡ good_cells c.in-Ok.chambers.items) c.deref.ensures.value c.in-Ok.ensures.good in
    let ok = assembles g.fan (fan_seen (c.cones.view_is ∙ c.cones-cones.ensures) c.cones.invariant.fan) c.requires.0 c.args.closed.now.found.items c.in-Ok.chambers.items cs c.requires.2 good c.sorted-chambers.ensures.same c.sorted-chambers.ensures.sorted in
    let numbers : IsNumbering (signatures_in cs) c.in_ok-numbers.numbers = subst (λ (l : List FanChamber). IsNumbering (signatures_in l) c.in_ok-numbers.numbers) c.deref-2.ensures.value c.in_ok-numbers.ensures in
    let made : AllZip (IsMade g.fan c.in_ok-numbers.numbers cs) cs (map chamber_of c.in_ok-listed.listed.items) =
    subst (λ (f : Fan). AllZip (IsMade f c.in_ok-numbers.numbers cs) cs (map chamber_of c.in_ok-listed.listed.items)) c.cones-cones.ensures
    (subst (λ (l : List FanChamber). AllZip (IsMade c.cones-cones.result.now c.in_ok-numbers.numbers l) l (map chamber_of c.in_ok-listed.listed.items)) c.deref-3.ensures.value c.in_ok-listed.ensures) in
    let k = ap (λ (f : Fan). f.k) (c.cones.view_is ∙ c.cones-cones.ensures) in
    let cones = c.count.ensures ∙ ap (λ (f : Fan). length f.list) c.cones-cones.ensures in
    listing_is g.fan first (length g.columns) cs c.in_ok-numbers.numbers (map chamber_of c.in_ok-listed.listed.items) (subst (λ (s : Signature). Assembles g.fan s cs) same ok) numbers made
    c.cones.inside.k c.r.result c.count.result k c.r.ensures.count cones

pub returns-clause-good : goal.returns-clause-good
returns-clause-good c = λ first is.
    let g = c.args.graph.now in
    let same : c.requires.0 ≡ first = one_signature g.fan (first_germ g.fan.k g.columns) c.requires.0 first c.requires.1 is in
    let cs : List FanChamber = c.sorted-chambers.result.items in
    let good : payloads_of c.args.closed.now.found.items ≡ good_cells c.in-Ok.chambers.items = subst (λ (l : List (Found Cell)). payloads_of l ≡ good_cells c.in-Ok.chambers.items) c.deref.ensures.value c.in-Ok.ensures.good in
    let ok = assembles g.fan (fan_seen (c.cones.view_is ∙ c.cones-cones.ensures) c.cones.invariant.fan) c.requires.0 c.args.closed.now.found.items c.in-Ok.chambers.items cs c.requires.2 good c.sorted-chambers.ensures.same c.sorted-chambers.ensures.sorted in
    subst (AllGood g.fan) same (good_of g.fan c.requires.0 cs ok.reach ok.good)
