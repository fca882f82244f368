use Rattle.std.proofs.Common.{◌≡◌, ◌+◌, ◌++◌, ◌∙◌, ◌∷◌, [], List, ap, map, subst, sym, take}
use Rattle.std.proofs.lemmas.List.{map-append, take_more}
use Rattle.std.specs.List.{AllZip}
use Rattle.git_listing.specs.Listings.{Chamber}
use Rattle.git_listing.specs.Views.{chamber_of}
use Rattle.git_listing.specs.declared.listing.ListedChamber.{ListedChamber}
use Rattle.git_chamber.specs.Views.{FanChamber}
use Rattle.git_assemble.specs.Making.{IsMade, IsReady}
use Rattle.git_assemble.proofs.Sided.{one_more_pair}
use Rattle.git_assemble.proofs.sides.listed_all.Goals as goal

pub listed-requires-clause-lengths : goal.listed-requires-clause-lengths
listed-requires-clause-lengths c = λ i d low. (c.requires.ready i d low).rays

pub listed-requires-clause-ready : goal.listed-requires-clause-ready
listed-requires-clause-ready c = subst (IsReady c.args.cones.now c.args.numbers.now) (sym c.c-item.is) (c.requires.ready c.loop-c.c-index c.c-item.result c.loop-c-test.true)

pub loop-c-preserved : goal.loop-c-preserved
loop-c-preserved c =
    let cs = c.args.chambers.now in
    let i = c.loop-c.c-index in
    let d = c.c-item.result in
    let l = c.in_ok-listed.field-0 in
    let items : c.push.new.self.items ≡ c.loop-c.all.items ++ l ∷ [] = c.in_ok-push.ensures.items in
    let same = ap (λ (ls : List ListedChamber). map chamber_of ls) items ∙ map-append chamber_of c.loop-c.all.items (l ∷ []) in
    let front : take (i + 1) cs ≡ take i cs ++ d ∷ [] = take_more cs i d c.loop-c-test.true ∙ ap (λ (x : FanChamber). take i cs ++ x ∷ []) (sym c.c-item.is) in
    let more = one_more_pair (IsMade c.args.cones.now c.args.numbers.now cs) (take i cs) (map chamber_of c.loop-c.all.items) d (chamber_of l) c.loop-c.invariant c.in_ok-listed.ensures in
    subst (λ (xs : List FanChamber). AllZip (IsMade c.args.cones.now c.args.numbers.now cs) xs (map chamber_of c.push.new.self.items)) (sym front)
    (subst (λ (ms : List Chamber). AllZip (IsMade c.args.cones.now c.args.numbers.now cs) (take i cs ++ d ∷ []) ms) (sym same) more)
