-- What is answered to an input with its weights: once, and always; and with which statuses.
use Rattle.std.proofs.Common.{◌≡◌, ◌⊎◌, ℕ, List, ap, drop, inl, inr, subst}
use Rattle.git_base.specs.declared.status.Status.TheVariants.{Done, Wide}
use Rattle.git_defs.specs.Vectors.{AllOfLength, Vector}
use Rattle.git_input.specs.Inputs.{InputValue}
use Rattle.git_orbit.specs.Orbits.{Fan}
use Rattle.git_listing.specs.Listings.{Listing}
use Rattle.git_replies.specs.Cases.{Case, HasOne, HasSome, Outcome, nothing}
use Rattle.git_replies.proofs.CaseLaws.{one_of}
use Rattle.git_weighted.specs.WeightedInputs.{IsWeightedInput}
use Rattle.git_weighted.specs.Reads.{no_weighted_input, of_weighted_input, reads_weighted}
use Rattle.git_weighted.proofs.WeightedTexts.{one_weighted, refusal_one, short_weights, weighted_or_refusal, weighted_passes}
use Rattle.git_weight_replies.specs.WeightCases.{locate_case}

module _ (cases : InputValue → List Vector → Case) (bytes : List ℕ) where
  pub weighted_one : ((v : InputValue) (ws : List Vector) → IsWeightedInput bytes v ws → HasOne (cases v ws)) → HasOne (reads_weighted cases bytes)
  weighted_one one = one_of (no_weighted_input bytes) (of_weighted_input bytes cases) (refusal_one bytes) (λ p x y a b.
      let same = one_weighted bytes b.0 a.0 b.1 a.1 b.2 a.2 in
      one a.0 a.1 a.2 x y a.3 (subst (λ (w : InputValue). cases w a.1 y) same.0 (subst (λ (ws : List Vector). cases b.0 ws y) same.1 b.3)))

  pub weighted_some : ((v : InputValue) (ws : List Vector) → IsWeightedInput bytes v ws → HasSome (cases v ws)) → HasSome (reads_weighted cases bytes)
  weighted_some some = elim (weighted_or_refusal bytes) [
    | inl w ↦ (let h = some w.0 w.1 w.2 in (h.0, inr (weighted_passes bytes w.0 w.1 w.2, (w.0, w.1, w.2, h.1))))
    | inr r ↦ (r.0, inl r.1)
  ]

-- ---- the statuses, and that no certificates follow
pub locate_status : (ws : List Vector) (fan : Fan) (l : Listing) (o : Outcome) → locate_case ws fan l o → (o.status ≡ Wide) ⊎ (o.status ≡ Done)
locate_status ws fan l o (inl wide) = inl (ap (λ (p : Outcome). p.status) wide.3)
locate_status ws fan l o (inr d) = inr (ap (λ (q : Outcome). q.status) d.1.2)

pub locate_bare : (ws : List Vector) (fan : Fan) (l : Listing) (o : Outcome) → locate_case ws fan l o → o.tail ≡ nothing
locate_bare ws fan l o (inl wide) = ap (λ (p : Outcome). p.tail) wide.3
locate_bare ws fan l o (inr d) = ap (λ (q : Outcome). q.tail) d.1.2

-- ---- the weights have as many entries as the grading has rows
pub weights_lengths : (bytes : List ℕ) (v : InputValue) (ws : List Vector) → IsWeightedInput bytes v ws → AllOfLength v.degrees.k ws
weights_lengths bytes v ws is = let short = short_weights v.degrees.k (drop is.used bytes) ws is.weights_are in λ i d low. (short i d low).entries
