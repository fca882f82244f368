use Rattle.git_allcones.specs.Faces.{face_of}
use Rattle.git_allcones.proofs.AllFaces.{face_equal, face_equal_equiv, face_equal_ties, face_exact, face_total, face_cmp, sorted_faces}
use Rattle.git_allcones.proofs.Sorts.{set_of}
use Rattle.git_allcones.proofs.faces.in_order.Goals as goal

pub returns-clause-sorted : goal.returns-clause-sorted
returns-clause-sorted c = sorted_faces _ (set_of face_of face_cmp face_total face_equal face_equal_equiv face_equal_ties face_exact
    c.args.faces.items c.sort_unstable.new.self.items c.dedup.new.self.items c.sort_unstable.ensures.permutation c.sort_unstable.ensures.sorted c.dedup.ensures.filtered).sorted

pub returns-clause-same : goal.returns-clause-same
returns-clause-same c = (set_of face_of face_cmp face_total face_equal face_equal_equiv face_equal_ties face_exact
    c.args.faces.items c.sort_unstable.new.self.items c.dedup.new.self.items c.sort_unstable.ensures.permutation c.sort_unstable.ensures.sorted c.dedup.ensures.filtered).same
