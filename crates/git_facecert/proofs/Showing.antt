-- What accepted certificates show.
use Rattle.git_ideals.proofs.FaceProofs.{no_a_face, a_face}
use Rattle.git_facecert.specs.Laws.{MonomialsRefute, FreeShow}

pub monomials_refute : MonomialsRefute
monomials_refute generators mask exponent cofactors a = no_a_face generators mask exponent cofactors (record {
  variables = λ k d lt. (a.cofactors_are k d lt).variables;
  sum = a.sum;
})

pub free_show : FreeShow
free_show generators mask members a = a_face generators mask members (record {
  nonzero = λ k d lt. (a.members_are k d lt).nonzero;
  no_unit = λ k d lt. (a.members_are k d lt).no_unit;
  generators_divide = a.generators_divide;
  clearing_divides = a.clearing_divides;
  pairs_divide = a.pairs_divide;
})
