-- What an offer says.
use Rattle.std.specs.Prelude.{◌≡◌, ◌≢◌, ℕ, ◌≤◌, ◌<◌, []}
use Rattle.git_machine.specs.Signatures.{Signature}
use Rattle.git_visits.specs.declared.view.Known.{Known}
use Rattle.git_table.specs.declared.answers.Turn.{Turn}
use Rattle.git_table.specs.declared.answers.Turn.TheVariants.{Published, Full, Taken}
use Rattle.git_table.specs.declared.answers.Offer.{Offer}
use Rattle.git_table.specs.declared.answers.Offer.TheVariants as offer
use Rattle.git_visits.specs.Visits.{records, hash_at, probe, HasNote}
use Rattle.git_visits.specs.Lists.{tail_of}
use Rattle.git_visits.specs.Seats.{Extends, SpareIs, DrewOver, with_look, with_seen}

module _ {G : Type 0} where
  -- what one probe says: v before and w after
  abbrev pub TurnSays : Known G → Known G → Signature → ℕ → Turn → Type 0
  TurnSays v w x k (Published n) = Extends (with_look (with_seen v n x) (hash_at v.key (probe v.key x k)) 0) w × (n < records w.key) × (w.spares ≡ tail_of v.spares)
  TurnSays v w x k Full = DrewOver v w × (v.spares ≡ [])
  TurnSays v w x k (Taken n s) = Extends v w × (n ≢ 0) × (n ≤ records w.key) × HasNote w (hash_at w.key (probe w.key x k)) n × SpareIs w s x × (tail_of w.spares ≡ tail_of v.spares)

  abbrev pub OfferSays : Known G → Known G → Signature → Offer → Type 0
  OfferSays v w x (offer.New n) = (n < records w.key) × ((k : ℕ) × Extends (with_look (with_seen v n x) (hash_at v.key (probe v.key x k)) 0) w)
  OfferSays v w x (offer.Seen n) = (n < records w.key) × Extends (with_seen v n x) w
  OfferSays v w x offer.Full = DrewOver v w
