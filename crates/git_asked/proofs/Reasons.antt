-- One reason has a place in the order.
use Rattle.std.proofs.Common.{◌≡◌, ℕ, zero, suc, refl, sym, ap, ◌∙◌}
use Rattle.git_asked.specs.declared.finding.Reason.{Reason}
use Rattle.git_asked.specs.declared.finding.Reason.TheVariants.{Shape, VerdictMissing, CertRefused, Monomial, WideCone, ConeCount, Order, WideChamber, Rays, Weight, Mark, FacetSet, FacetKind, Neighbour, MatchKind, FirstMissing, NotReached}
use Rattle.git_asked.specs.Findings.{rank_of}

-- the reason at a place
abbrev reason_at : ℕ → Reason
reason_at zero = Shape
reason_at (suc zero) = VerdictMissing
reason_at (suc (suc zero)) = CertRefused
reason_at (suc (suc (suc zero))) = Monomial
reason_at (suc (suc (suc (suc zero)))) = WideCone
reason_at (suc (suc (suc (suc (suc zero))))) = ConeCount
reason_at (suc (suc (suc (suc (suc (suc zero)))))) = Order
reason_at (suc (suc (suc (suc (suc (suc (suc zero))))))) = WideChamber
reason_at (suc (suc (suc (suc (suc (suc (suc (suc zero)))))))) = Rays
reason_at (suc (suc (suc (suc (suc (suc (suc (suc (suc zero))))))))) = Weight
reason_at (suc (suc (suc (suc (suc (suc (suc (suc (suc (suc zero)))))))))) = Mark
reason_at (suc (suc (suc (suc (suc (suc (suc (suc (suc (suc (suc zero))))))))))) = FacetSet
reason_at (suc (suc (suc (suc (suc (suc (suc (suc (suc (suc (suc (suc zero)))))))))))) = FacetKind
reason_at (suc (suc (suc (suc (suc (suc (suc (suc (suc (suc (suc (suc (suc zero))))))))))))) = Neighbour
reason_at (suc (suc (suc (suc (suc (suc (suc (suc (suc (suc (suc (suc (suc (suc zero)))))))))))))) = MatchKind
reason_at (suc (suc (suc (suc (suc (suc (suc (suc (suc (suc (suc (suc (suc (suc (suc zero))))))))))))))) = FirstMissing
reason_at (suc (suc (suc (suc (suc (suc (suc (suc (suc (suc (suc (suc (suc (suc (suc (suc zero)))))))))))))))) = NotReached
reason_at n = Shape

at_rank : (r : Reason) → reason_at (rank_of r) ≡ r
at_rank Shape = refl
at_rank VerdictMissing = refl
at_rank CertRefused = refl
at_rank Monomial = refl
at_rank WideCone = refl
at_rank ConeCount = refl
at_rank Order = refl
at_rank WideChamber = refl
at_rank Rays = refl
at_rank Weight = refl
at_rank Mark = refl
at_rank FacetSet = refl
at_rank FacetKind = refl
at_rank Neighbour = refl
at_rank MatchKind = refl
at_rank FirstMissing = refl
at_rank NotReached = refl

pub one_rank : (q r : Reason) → rank_of q ≡ rank_of r → q ≡ r
one_rank q r e = sym (at_rank q) ∙ ap reason_at e ∙ at_rank r
