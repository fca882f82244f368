-- What is told of all cones: the statuses, and that no certificates follow.
use Rattle.std.proofs.Common.{◌≡◌, ◌⊎◌, ap, inl, inr}
use Rattle.git_base.specs.declared.status.Status.TheVariants.{Done, TooMany, Wide}
use Rattle.git_listing.specs.Listings.{Listing}
use Rattle.git_replies.specs.Cases.{Outcome, nothing}
use Rattle.git_cone_replies.specs.ConeCases.{cones_case}

pub cones_status : (l : Listing) (o : Outcome) → cones_case l o → (o.status ≡ TooMany) ⊎ ((o.status ≡ Wide) ⊎ (o.status ≡ Done))
cones_status l o (inl many) = inl (ap (λ (p : Outcome). p.status) many.1)
cones_status l o (inr (p, inl wide)) = inr (inl (ap (λ (q : Outcome). q.status) wide.4))
cones_status l o (inr (p, inr (q, tells))) = inr (inr (ap (λ (r : Outcome). r.status) tells.4))

pub cones_bare : (l : Listing) (o : Outcome) → cones_case l o → o.tail ≡ nothing
cones_bare l o (inl many) = ap (λ (p : Outcome). p.tail) many.1
cones_bare l o (inr (p, inl wide)) = ap (λ (q : Outcome). q.tail) wide.4
cones_bare l o (inr (p, inr (q, tells))) = ap (λ (r : Outcome). r.tail) tells.4
