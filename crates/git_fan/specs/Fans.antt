-- What is handed on between the cases of `fan`.
use Rattle.std.specs.Prelude.{◌≡◌, ◌↔◌, ℕ, ◌≤◌, ◌+◌, ◌*◌, ◌^◌, List, length}
use Rattle.git_input.specs.Inputs.{InputValue}
use Rattle.git_ideals.specs.Faces.{IsAFace}
use Rattle.git_basis.specs.Stops.{Ends}
use Rattle.git_basis.specs.declared.step.Step.{Step}
use Rattle.git_facecert.specs.declared.certificate.FaceVerdict.{FaceVerdict}
use Rattle.git_chamber.specs.Views.{Graph}
use Rattle.git_base.specs.declared.status.Status.{Status}
use Rattle.git_base.specs.declared.status.Status.TheVariants as statuses
use Rattle.git_orbit.specs.declared.orbit.ConesFault.{ConesFault}
use Rattle.git_orbit.specs.declared.orbit.ConesFault.TheVariants.{Wide, NoMemory}
use Rattle.git_orbit.specs.Signatures.{width_of}
use Rattle.git_listing.specs.Listings.{Listing}
use Rattle.git_listing.specs.Views.{listing_of}
use Rattle.git_replies.specs.Cases.{Case, Outcome, Passes, ◌otherwise◌}
use Rattle.git_answers.specs.Ends.{spelled}
use Rattle.git_assemble.specs.declared.fault.AssembleFault.{AssembleFault}
use Rattle.git_assemble.specs.declared.fault.AssembleFault.TheVariants as bad
use Rattle.git_answers.specs.Fan.{Options, IsFanOf, IsListingOf, not_good, table_full}
use Rattle.git_replies.specs.Lines.{wide_face_text, wide_chamber_text}
use Rattle.git_answers.specs.Verdicts.{AreVerdicts, IsVerdict, whole_face, start_at}
use Rattle.git_fan.specs.declared.opening.Opened.{Opened}
use Rattle.git_fan.specs.declared.opening.Opened.TheVariants.{Decided, Open}
use Rattle.git_fan.specs.declared.listing.Listed.{Listed}
use Rattle.git_fan.specs.declared.listing.Listed.TheVariants.{Refused, Chambers}

-- the verdict of the whole face, which is an a-face; its run ends within so many steps
pub record IsWholeVerdict (v : InputValue) (limit : ℕ) (f : FaceVerdict) : Type 0 where
  pub mask : f.mask ≡ whole_face v
  pub verdict : IsVerdict v f
  pub a_face : IsAFace v.generators (whole_face v)
  pub steps : List Step
  pub ends : Ends (start_at v (whole_face v)) limit steps

-- the graph of the input's orbit cones
pub record IsGraphOf (v : InputValue) (g : Graph) : Type 0 where
  pub fan : IsFanOf v g.fan
  pub columns : g.columns ≡ v.degrees.columns

-- with the graph and the verdicts, the cases from the full table on are all that is left of C
pub record IsOpenFan (v : InputValue) (n : Options) (C : Case) (g : Graph) (faces : List FaceVerdict) : Type 0 where
  pub graph : IsGraphOf v g
  pub verdicts : AreVerdicts v faces
  pub small : width_of g.fan ≤ 1024
  pub room : (n.table + 64) * width_of g.fan ≤ 2 ^ 24
  pub rest : (o : Outcome) → C o ↔ (table_full v n otherwise not_good v) o

-- one of the cases C is decided, or the graph is open
abbrev pub IsOpened : InputValue → Options → Case → Opened → Type 0
IsOpened v n C (Decided a) = spelled v C a.status a.text.items
IsOpened v n C (Open graph faces) = IsOpenFan v n C graph faces.items

-- none of the cases C refuses, and these are the input's graph, its verdicts and its listing
pub record HasListing (v : InputValue) (C : Case) (g : Graph) (faces : List FaceVerdict) (l : Listing) : Type 0 where
  pub passes : Passes C
  pub graph : IsGraphOf v g
  pub verdicts : AreVerdicts v faces
  pub listing : IsListingOf v g.fan l

-- one of the cases C refuses, or the chambers are listed
abbrev pub IsListed : InputValue → Case → Listed → Type 0
IsListed v C (Refused a) = spelled v C a.status a.text.items
IsListed v C (Chambers graph faces listing) = HasListing v C graph faces.items (listing_of listing)

-- the signature is one of at most 1024 words
abbrev pub IsNarrow : AssembleFault → Type 0
IsNarrow (bad.Wide sig at) = length sig ≤ 1024
IsNarrow bad.NoMemory = Unit {0}

-- the line of a wide signature
abbrev pub IsNotGoodReply : AssembleFault → Status → List ℕ → Type 0
IsNotGoodReply (bad.Wide sig at) s text = (s ≡ statuses.Wide) × (text ≡ wide_chamber_text sig at)
IsNotGoodReply bad.NoMemory s text = ⊥

-- the line of a wide cone
abbrev pub IsWideReply : ConesFault → Status → List ℕ → Type 0
IsWideReply (Wide mask at) s text = (s ≡ statuses.Wide) × (text ≡ wide_face_text mask at)
IsWideReply NoMemory s text = ⊥
