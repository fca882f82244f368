use Rattle.std.proofs.Common.{map, List, sym, subst}
use Rattle.git_listing.specs.Listings.{Chamber}
use Rattle.git_listing.specs.declared.listing.ListedFacet.{ListedFacet}
use Rattle.git_listing.specs.declared.listing.ListedChamber.{ListedChamber}
use Rattle.git_walk.specs.Walks.{Marks, NamedBy}
use Rattle.git_listing.specs.Views.{facet_of}
use Rattle.git_walk.proofs.WalkLemmas.{chamber_at}
use Rattle.git_walk.proofs.walk.look_at.Goals as goal

pub returns : goal.returns
returns c = λ x e.
    let same = chamber_at c.args.chambers.now c.args.place c.index-chambers-place.result x c.requires c.index-chambers-place.is e in
    let named = subst (λ (fs : List ListedFacet). Marks (NamedBy (map facet_of fs)) c.args.marks.now.items c.mark_named.new.marks.items c.args.pending.now.items c.mark_named.new.pending.items) c.deref.ensures.value c.in_ok-mark_named.ensures in
    let there = subst (λ (y : ListedChamber). Marks (NamedBy (map facet_of y.facets.items)) c.args.marks.now.items c.mark_named.new.marks.items c.args.pending.now.items c.mark_named.new.pending.items) (sym c.index-chambers-place.is) named in
    subst (λ (y : Chamber). Marks (NamedBy y.facets) c.args.marks.now.items c.mark_named.new.marks.items c.args.pending.now.items c.mark_named.new.pending.items) (sym same) there
