use Rattle.std.proofs.Common.{◌∙◌, Contains, List, ap, arith, map, subst}
use Rattle.std.specs.Global.{Vec}
use Rattle.git_ints.specs.declared.vector.IVec.{IVec}
use Rattle.git_cone_faces.specs.Families.{Cone}
use Rattle.git_listing.specs.Views.{listing_of}
use Rattle.git_allcones.specs.Cones.{cone_of, cones_of}
use Rattle.git_allcones.specs.Faces.{face_of}
use Rattle.git_allcones.specs.Sets.{vectors_of}
use Rattle.git_allcones.proofs.AllFaces.{AreFacesOf, all_of_lists, face_short, size_of_lists}
use Rattle.git_allcones.proofs.faces.all_faces.Goals as goal

pub with_dimensions-requires-clause-short : goal.with_dimensions-requires-clause-short
with_dimensions-requires-clause-short c =
    let k = c.args.k in let cones = cones_of (listing_of c.args.listing.now) in let lists = map vectors_of c.in_ok-lists.lists.items in
    let each : AreFacesOf k cones lists =
    subst (λ (u : List Cone). AreFacesOf k u lists) (ap (map cone_of) c.deref.ensures.value ∙ c.in-Ok.ensures) c.in_ok-lists.ensures.each in
    λ vs m. face_short k cones vs c.requires ((each vs).0 (subst (λ (l : List (Vec IVec)). Contains (map vectors_of l) vs) c.deref-2.ensures.value m))

pub returns-in-Ok-with_dimensions-clause-all : goal.returns-in-Ok-with_dimensions-clause-all
returns-in-Ok-with_dimensions-clause-all c =
    let k = c.args.k in let cones = cones_of (listing_of c.args.listing.now) in let lists = map vectors_of c.in_ok-lists.lists.items in
    let each : AreFacesOf k cones lists =
    subst (λ (u : List Cone). AreFacesOf k u lists) (ap (map cone_of) c.deref.ensures.value ∙ c.in-Ok.ensures) c.in_ok-lists.ensures.each in
    all_of_lists k cones lists (map face_of c.in-Ok-with_dimensions.faces.items) (map face_of c.in_order.result.items) each
    (c.in-Ok-with_dimensions.ensures.rays ∙ ap (map vectors_of) c.deref-2.ensures.value) c.in-Ok-with_dimensions.ensures.dimensions
    c.in_order.ensures.sorted c.in_order.ensures.same

pub returns-in-Ok-with_dimensions-clause-few : goal.returns-in-Ok-with_dimensions-clause-few
returns-in-Ok-with_dimensions-clause-few c =
    let k = c.args.k in let cones = cones_of (listing_of c.args.listing.now) in let lists = map vectors_of c.in_ok-lists.lists.items in
    let each : AreFacesOf k cones lists =
    subst (λ (u : List Cone). AreFacesOf k u lists) (ap (map cone_of) c.deref.ensures.value ∙ c.in-Ok.ensures) c.in_ok-lists.ensures.each in
    let size = size_of_lists k cones lists (map face_of c.in_order.result.items) each (returns-in-Ok-with_dimensions-clause-all c) in
    let few = c.in_ok-lists.ensures.few in
    omega (arith, size, few)
