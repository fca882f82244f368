-- The first reached signature that is wide, or the listing.
use Rattle.std.proofs.Common.{◌≡◌, ◌∙◌, ◌≤◌, ◌<◌, ◌+◌, ◌*◌, ℕ, List, length, inl, inr, refl, sym, ap, subst, arith}
use Rattle.std.specs.declared.cmp.Ordering.{Ordering}
use Rattle.std.specs.declared.cmp.Ordering.TheVariants.{Less, Equal, Greater}
use Rattle.std.specs.Ordering.{ordering_reverse}
use Rattle.git_base.specs.declared.status.Status.{Status}
use Rattle.git_base.specs.declared.status.Status.TheVariants as statuses
use Rattle.git_input.specs.Inputs.{InputValue}
use Rattle.git_machine.specs.Signatures.{Signature, signature_cmp}
use Rattle.git_machine.specs.Reach.{Reached, IsReach, ReachExceeds}
use Rattle.git_machine.specs.declared.successors.Found.{Found}
use Rattle.git_plain.specs.Closing.{InOrder, signatures_of}
use Rattle.std.specs.List.{All}
use Rattle.std.proofs.lemmas.Bool.{cases_lt}
use Rattle.std.proofs.lemmas.List.{length-map}
use Rattle.git_machine.specs.Ties.{signature_total}
use Rattle.git_orbit.specs.Orbits.{Fan}
use Rattle.git_chamber.specs.Views.{Graph}
use Rattle.git_defs.specs.Vectors.{Vector}
use Rattle.git_chamber.specs.Chambers.{IsCell, IsNext, first_germ}
use Rattle.git_chamber.specs.Listings.{IsListing}
use Rattle.git_chamber.specs.declared.cell.Cell.{Cell}
use Rattle.git_chamber.specs.declared.cell.Cell.TheVariants as cell
use Rattle.git_listing.specs.Listings.{Listing}
use Rattle.git_assemble.specs.Assembling.{AllGood, IsFirstBad, IsGoodSignature, IsFirstSignature, IsClosure, IsAssembleFault}
use Rattle.git_replies.specs.Cases.{Passes, Outcome, says}
use Rattle.git_answers.specs.Ends.{spelled}
use Rattle.git_answers.specs.Fan.{IsBad, IsOpening, IsRefused, Refuses, UpTo, IsListingOf, written, not_good}
use Rattle.git_replies.specs.Lines.{wide_chamber_text}
use Rattle.git_answers.specs.declared.output.Output.{Output}
use Rattle.git_answers.specs.declared.output.Output.TheVariants.{Plain, Certified, Counted}
use Rattle.git_assemble.specs.declared.fault.AssembleFault.{AssembleFault}
use Rattle.git_assemble.specs.declared.fault.AssembleFault.TheVariants as bad
use Rattle.git_answers.proofs.Replies.{plain}
use Rattle.git_fan.specs.Fans.{IsGraphOf, IsNarrow, IsNotGoodReply}
use Rattle.git_orbit.specs.Signatures.{IsLegal, IsSignature, width_of}
use Rattle.git_chamber.proofs.Graphs.{reached_legal}
use Rattle.git_answers.proofs.OneFan.{opening_along}

-- the graph of the input opens with its first signature
pub opens : (v : InputValue) (g : Graph) (first : Signature) → IsGraphOf v g → IsFirstSignature g first → IsOpening v g.fan first
opens v g first of is = record {
  is_fan = of.fan;
  is_first = subst (λ (k : ℕ). IsSignature g.fan (first_germ k v.degrees.columns) first) of.fan.k
      (subst (λ (qs : List Vector). IsSignature g.fan (first_germ g.fan.k qs) first) of.columns is);
}

-- a good signature isn't refused
pub good_not_refused : (fan : Fan) (sig : Signature) (o : Outcome) → IsGoodSignature fan sig → IsRefused fan sig o → ⊥
good_not_refused fan sig o good (cell.Good c, is, refuses) = refuses
good_not_refused fan sig o good (cell.Wide at, is, refuses) = good.1.0 at is

turned : (o : Ordering) (p : Ordering) → o ≡ ordering_reverse p → o ≡ Greater → p ≡ Less
turned o Less e g = refl
turned o Equal e g = let h : Equal ≡ Greater = sym e ∙ g in cc h
turned o Greater e g = let h : Less ≡ Greater = sym e ∙ g in cc h

-- the first one that isn't good is named
pub first_bad : (v : InputValue) (g : Graph) (first sig : Signature) (c : Cell) (o : Outcome) → IsGraphOf v g → IsFirstSignature g first → IsFirstBad g.fan first sig c → Refuses sig c o → not_good v o
first_bad v g first sig c o of is bad refuses =
    (g.fan, first, opens v g first of is, (sig, record { holds = (bad.reached, (o, (c, bad.is_cell, refuses))); first = least }, (c, bad.is_cell, refuses)))
  where
    least : (t : Signature) → IsBad g.fan first t → UpTo sig t
    least t b e = good_not_refused g.fan t b.1.0 (bad.before t b.0 (turned (signature_cmp sig t) (signature_cmp t sig) (signature_total.antisymm sig t) e)) b.1.1

-- where all is good none is named
pub none_bad : (v : InputValue) (g : Graph) (first : Signature) → IsGraphOf v g → IsFirstSignature g first → AllGood g.fan first → Passes (not_good v)
none_bad v g first of is good o h =
    let there = opening_along v g.fan h.0 first h.1 (λ fan f. AllGood fan f) (opens v g first of is) h.2 good in
    good_not_refused h.0 h.3.0 o (there h.3.0 h.3.1.holds.0) h.3.2

-- a listing is done, whatever is written of it
pub written_done : (output : Output) (l : Listing) → (written output l).status ≡ statuses.Done
written_done Plain l = refl
written_done Certified l = refl
written_done Counted l = refl

-- the chambers that the engine lists are the input's
pub listing_is : (v : InputValue) (g : Graph) (first : Signature) (l : Listing) → IsGraphOf v g → IsFirstSignature g first → IsListing g.fan first (length g.columns) l → IsListingOf v g.fan l
listing_is v g first l of is listing = record { first = first; opening = opens v g first of is; listing = subst (λ (r : ℕ). IsListing g.fan first r l) (ap length of.columns) listing }

-- the words of a reached signature are few
pub few_reached : (fan : Fan) (first sig : Signature) → IsLegal fan first → Reached (IsNext fan) first sig → width_of fan ≤ 1024 → length sig ≤ 1024
few_reached fan first sig legal reached few = let w = (reached_legal fan first sig legal reached).is.width in omega (arith, w, few)

-- what the engine lists is a closure
pub closure_of : (fan : Fan) (first : Signature) (found : List (Found Cell)) (table : ℕ) → IsLegal fan first → IsReach (IsNext fan) first (signatures_of found) → InOrder (signatures_of found)
    → All (λ f. IsCell fan f.sig f.payload) found → (ReachExceeds (IsNext fan) first table → ⊥) → table ≤ 65536 → IsClosure fan first found
closure_of fan first found table legal reach order cells fits few = record {
  legal = legal;
  reach = reach;
  order = order;
  cells = cells;
  few = elim (cases_lt table (length found)) [
    | inl more ↦ absurd (fits (record { some = signatures_of found; many = (let e = length-map found (λ (f : Found Cell). f.sig) in omega (arith, more, e)); reached = reach.sound; once = reach.once }))
    | inr less ↦ omega (arith, less, few)
  ];
}

pub few_product : (table width : ℕ) → table ≤ 65536 → width ≤ 1024 → (table + 64) * width < 18446744073709551616
few_product table width t w = let p : (table + 64) * width ≤ 65600 * 1024 = mul-le-mul_both (table + 64) 65600 width 1024 (omega (arith, t)) w in omega (arith, p)
  where
    mul-le-mul_both : (a b c d : ℕ) → a ≤ b → c ≤ d → a * c ≤ b * d
    mul-le-mul_both a b c d p q = Rattle.std.proofs.Math.Nat.mul-le-mul p q

-- the signature of a fault is reached, and narrow
pub narrow_fault : (fan : Fan) (first : Signature) (f : AssembleFault) → IsLegal fan first → width_of fan ≤ 1024 → IsAssembleFault fan first f → IsNarrow f
narrow_fault fan first (bad.Wide sig at) legal few h = few_reached fan first sig legal h.reached few
narrow_fault fan first bad.NoMemory legal few h = tt

-- the fault's line is that of the first signature that isn't good
pub not_good_replied : (v : InputValue) (g : Graph) (first : Signature) (f : AssembleFault) (s : Status) (text : List ℕ) → IsGraphOf v g → IsFirstSignature g first → IsAssembleFault g.fan first f → IsNotGoodReply f s text
    → spelled v (not_good v) s text
not_good_replied v g first (bad.Wide sig at) s text of is h reply =
    plain v (not_good v) statuses.Wide s text (wide_chamber_text sig at) (first_bad v g first sig (cell.Wide at) (says statuses.Wide (wide_chamber_text sig at)) of is h refl) reply.0 reply.1
not_good_replied v g first bad.NoMemory s text of is h reply = absurd reply
