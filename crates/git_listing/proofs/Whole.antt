-- A listing is read as what is printed of it, and the other way round.
use Rattle.std.proofs.Common.{◌≡◌, ℕ, zero, suc, ◌+◌, ◌≤◌, ◌^◌, Bool, true, false, cond, inl, inr, List, [], ◌∷◌, ◌++◌, length, map, Option, Some, None, Result, Ok, refl, sym, ap, ◌∙◌, subst, append_assoc, arith}
use Rattle.std.specs.Prelude.{ℤ, codes, unsigned_abs, ◌==◌}
use Rattle.std.specs.List.{AllByRecursion}
use Rattle.std.proofs.lemmas.Int.{ints}
use Rattle.git_defs.specs.Vectors.{Vector}
use Rattle.git_lines.specs.declared.fault.FormFault.{FormFault}
use Rattle.git_lines.specs.Lines.{RestOfText}
use Rattle.git_lines.specs.Printing.{spaced, line_text}
use Rattle.git_lines.specs.Reading.{◌>>=◌, times}
use Rattle.git_lines.proofs.Exact.{bind_ok, ok_is}
use Rattle.git_lines.proofs.WrittenLines.{IsPlainWord}
use Rattle.git_strictlines.specs.Reading.{next_by, header_line, number_line, end_line, begins_with, some_at}
use Rattle.git_strictlines.specs.Spelling.{number_words, end_words}
use Rattle.git_strictlines.proofs.Spelled.{Spelled}
use Rattle.git_strictlines.proofs.FieldSteps.{IsWithin}
use Rattle.git_strictlines.proofs.LinesSpelled.{LineSpelled, IsNumber, feed_is, next_spelled, number_spelled, header_spelled, end_spelled}
use Rattle.git_strictlines.proofs.Many.{begins_on, begins_other, plain_fields, BeginEach, some_takes, some_again}
use Rattle.git_strictlines.proofs.Bytes.{AreTextLines, text_lines_append, words_line, map_lines}
use Rattle.git_listing.specs.declared.limits.TheConstants.{LISTED, LAST_CONE, ENTRY_LOW, ENTRY_HIGH, WEIGHT_LOW, WEIGHT_HIGH}
use Rattle.git_listing.specs.Limits.{FitsVector, FitsFacet, FitsMark, IsCount, AreSizes, IsVersion, FitsChamber, FitsListing}
use Rattle.git_listing.specs.Listings.{Facet, Chamber, Listing}
use Rattle.git_listing.specs.ListingReading.{sizes_line, ray_line, weight_line, facet_line, marked, mark_at, Numbered, chamber_at, chambers_at, HeadValue, head_at, listing_at}
use Rattle.git_listing.proofs.ListingLines.{sizes_words, vector_words, facet_words, sizes_spelled, AreEntries, vector_spelled, IsFacet, facet_spelled, entry_limits, weight_limits}

-- ---- the lines of a listing

abbrev pub ray_words : Vector → List (List ℕ)
ray_words v = vector_words (codes "ray") v

abbrev pub weight_words : Vector → List (List ℕ)
weight_words v = vector_words (codes "weight") v

abbrev pub mark_lines : Option ℕ → List (List ℕ)
mark_lines None = []
mark_lines (Some cone) = line_text (number_words (codes "crossed") cone) ∷ []

-- a chamber and its number
abbrev pub chamber_lines : ℕ → ℕ → Chamber → List (List ℕ)
chamber_lines version n c =
    line_text (number_words (codes "chamber") n) ∷ map (λ v. line_text (ray_words v)) c.rays
    ++ (line_text (weight_words c.weight) ∷ mark_lines c.crossed ++ map (λ f. line_text (facet_words version f)) c.facets)

-- the chambers, numbered on from n
abbrev pub chambers_lines : ℕ → ℕ → List Chamber → List (List ℕ)
chambers_lines version n [] = []
chambers_lines version n (c ∷ cs) = chamber_lines version n c ++ chambers_lines version (n + 1) cs

-- the lines before the first chamber
abbrev pub head_lines : HeadValue → List (List ℕ)
head_lines h =
    line_text (number_words (codes "gitfan-listing") h.version) ∷ line_text (sizes_words h.sizes) ∷ line_text (number_words (codes "cones") h.cones)
    ∷ line_text (number_words (codes "chambers") h.count) ∷ []

abbrev pub head_value : Listing → HeadValue
head_value l = record { version = l.version; sizes = (l.k, l.r); cones = l.cones; count = length l.chambers }

abbrev pub listing_lines : Listing → List (List ℕ)
listing_lines l = head_lines (head_value l) ++ (chambers_lines l.version 1 l.chambers ++ (line_text end_words ∷ []))

-- ---- the limits of entries, in two ways

all_map : {A : Type 0} (P Q : A → Type 0) → ((a : A) → P a → Q a) → (xs : List A) → AllByRecursion P xs → AllByRecursion Q xs
all_map P Q f [] h = tt
all_map P Q f (x ∷ xs) h = (f x h.0, all_map P Q f xs h.1)

abbrev IsRay : ℕ → Vector → Type 0
IsRay k v = AreEntries k ENTRY_LOW ENTRY_HIGH v

abbrev IsWeight : ℕ → Vector → Type 0
IsWeight k v = AreEntries k WEIGHT_LOW WEIGHT_HIGH v

entry_small : (z : ℤ) → IsWithin ENTRY_LOW ENTRY_HIGH z → unsigned_abs z ≤ 2 ^ 40
entry_small z w = omega (arith, ints, w.above, w.below)

small_entry : (z : ℤ) → unsigned_abs z ≤ 2 ^ 40 → IsWithin ENTRY_LOW ENTRY_HIGH z
small_entry z h = record { above = omega (arith, ints, h); below = omega (arith, ints, h) }

weight_small : (z : ℤ) → IsWithin WEIGHT_LOW WEIGHT_HIGH z → unsigned_abs z ≤ 2 ^ 57
weight_small z w = omega (arith, ints, w.above, w.below)

small_weight : (z : ℤ) → unsigned_abs z ≤ 2 ^ 57 → IsWithin WEIGHT_LOW WEIGHT_HIGH z
small_weight z h = record { above = omega (arith, ints, h); below = omega (arith, ints, h) }

ray_fits : (k : ℕ) (v : Vector) → IsRay k v → FitsVector k (2 ^ 40) v
ray_fits k v h = record { entries = h.0; small = all_map _ (λ z. unsigned_abs z ≤ 2 ^ 40) entry_small v h.1 }

fits_ray : (k : ℕ) (v : Vector) → FitsVector k (2 ^ 40) v → IsRay k v
fits_ray k v h = (h.entries, all_map (λ z. unsigned_abs z ≤ 2 ^ 40) _ small_entry v h.small)

weight_fits : (k : ℕ) (v : Vector) → IsWeight k v → FitsVector k (2 ^ 57) v
weight_fits k v h = record { entries = h.0; small = all_map _ (λ z. unsigned_abs z ≤ 2 ^ 57) weight_small v h.1 }

fits_weight : (k : ℕ) (v : Vector) → FitsVector k (2 ^ 57) v → IsWeight k v
fits_weight k v h = (h.entries, all_map (λ z. unsigned_abs z ≤ 2 ^ 57) _ small_weight v h.small)

facet_fits : (version k : ℕ) (f : Facet) → IsFacet version k f → FitsFacet version k f
facet_fits version k f h = (ray_fits k f.normal h.0, h.1)

fits_facet : (version k : ℕ) (f : Facet) → FitsFacet version k f → IsFacet version k f
fits_facet version k f h = (fits_ray k f.normal h.0, h.1)

-- ---- words

chamber_word : IsPlainWord (codes "chamber")
chamber_word = record { some = omega arith; bytes = refl }

ray_word : IsPlainWord (codes "ray")
ray_word = record { some = omega arith; bytes = refl }

weight_word : IsPlainWord (codes "weight")
weight_word = record { some = omega arith; bytes = refl }

crossed_word : IsPlainWord (codes "crossed")
crossed_word = record { some = omega arith; bytes = refl }

cones_word : IsPlainWord (codes "cones")
cones_word = record { some = omega arith; bytes = refl }

chambers_word : IsPlainWord (codes "chambers")
chambers_word = record { some = omega arith; bytes = refl }

format_word : IsPlainWord (codes "gitfan-listing")
format_word = record { some = omega arith; bytes = refl }

rays_spelled : (k : ℕ) → LineSpelled (ray_line k) ray_words (IsRay k)
rays_spelled k = vector_spelled (codes "ray") k ENTRY_LOW ENTRY_HIGH ray_word entry_limits

weights_spelled : (k : ℕ) → LineSpelled (weight_line k) weight_words (IsWeight k)
weights_spelled k = vector_spelled (codes "weight") k WEIGHT_LOW WEIGHT_HIGH weight_word weight_limits

mark_spelled : LineSpelled (number_line (codes "crossed") 0 LAST_CONE) (number_words (codes "crossed")) (IsNumber 0 LAST_CONE)
mark_spelled = number_spelled (codes "crossed") 0 LAST_CONE crossed_word (omega arith)

rays_begin : (k : ℕ) → BeginEach (codes "ray") (ray_line k) ray_words (IsRay k) (rays_spelled k)
rays_begin k = record { some = omega arith; first = λ v h. (_, refl) }

facets_begin : (version k : ℕ) → BeginEach (codes "facet") (facet_line version k) (facet_words version) (IsFacet version k) (facet_spelled version k)
facets_begin version k = record { some = omega arith; first = λ f h. (_, refl) }

at_number : (n : ℕ) → n ≤ LISTED → LineSpelled (number_line (codes "chamber") n n) (number_words (codes "chamber")) (IsNumber n n)
at_number n h = number_spelled (codes "chamber") n n chamber_word (omega (arith, h))

this_number : (n m : ℕ) → IsNumber n n m → m ≡ n
this_number n m w = omega (arith, w.above, w.below)

number_itself : (n : ℕ) → IsNumber n n n
number_itself n = record { above = omega arith; below = omega arith }

is_count : (n : ℕ) → IsNumber 1 LISTED n → IsCount n
is_count n h = (h.above, h.below)

count_is : (n : ℕ) → IsCount n → IsNumber 1 LISTED n
count_is n h = record { above = h.0; below = h.1 }

-- ---- marks

not_one : (version : ℕ) → IsVersion version → (version == 1) ≡ false → version ≡ 2
not_one version (inl one) other = absurd (let same : (version == 1) ≡ true = rw one refl in cc (sym other ∙ same))
not_one version (inr two) other = two

mark_takes_in : (version : ℕ) → IsVersion version → (s after : RestOfText) (m : Option ℕ) (old here : Bool) → (version == 1) ≡ old → begins_with (codes "crossed") s ≡ here
    → cond {A = Result (Option ℕ × RestOfText) FormFault} old (Ok (None, s)) (cond here (next_by (number_line (codes "crossed") 0 LAST_CONE) s >>= marked) (Ok (None, s))) ≡ Ok (m, after)
    → (s.lines ≡ mark_lines m ++ after.lines) × FitsMark version m
mark_takes_in version known s after m true here v b e =
    let p = ok_is (None, s) (m, after) e in subst (λ q. (s.lines ≡ mark_lines q.0 ++ q.1.lines) × FitsMark version q.0) p (refl, tt)
mark_takes_in version known s after m false false v b e =
    let p = ok_is (None, s) (m, after) e in subst (λ q. (s.lines ≡ mark_lines q.0 ++ q.1.lines) × FitsMark version q.0) p (refl, tt)
mark_takes_in version known s after m false true v b e =
    let n = bind_ok (next_by (number_line (codes "crossed") 0 LAST_CONE) s) _ (m, after) e in
    let p = ok_is (Some n.0.0, n.0.1) (m, after) n.2 in
    let t = (next_spelled _ _ _ mark_spelled).takes s n.0.1 n.0.0 n.1 in
    subst (λ q. (s.lines ≡ mark_lines q.0 ++ q.1.lines) × FitsMark version q.0) p (t.0, (t.1.below, not_one version known v))

mark_takes : (version : ℕ) → IsVersion version → (s after : RestOfText) (m : Option ℕ) → mark_at version s ≡ Ok (m, after) → (s.lines ≡ mark_lines m ++ after.lines) × FitsMark version m
unfolding mark_at
mark_takes version known s after m e = mark_takes_in version known s after m (version == 1) (begins_with (codes "crossed") s) refl refl e

no_mark_in : (version : ℕ) (s : RestOfText) (old : Bool) → (version == 1) ≡ old → begins_with (codes "crossed") s ≡ false → mark_at version s ≡ Ok (None, s)
unfolding mark_at
no_mark_in version s true v b = rw v refl
no_mark_in version s false v b = rw (v, b) refl

mark_begins : (cone line : ℕ) (ls : List (List ℕ)) → cone ≤ LAST_CONE → begins_with (codes "crossed") (record { line = line; lines = line_text (number_words (codes "crossed") cone) ∷ ls }) ≡ true
mark_begins cone line ls few =
    begins_on (codes "crossed") line (line_text (number_words (codes "crossed") cone)) ls _ (omega arith) (feed_is (spaced (number_words (codes "crossed") cone)))
    (plain_fields (number_words (codes "crossed") cone) (mark_spelled.plain cone (record { above = omega arith; below = few })))

mark_again : (version : ℕ) (s : RestOfText) (m : Option ℕ) (ts : List (List ℕ)) → FitsMark version m → s.lines ≡ mark_lines m ++ ts → ((n : ℕ) → begins_with (codes "crossed") (record { line = n; lines = ts }) ≡ false)
    → (after : RestOfText) × (mark_at version s ≡ Ok (m, after)) × (after.lines ≡ ts)
unfolding mark_at
mark_again version s None ts h e stops =
    let none : begins_with (codes "crossed") s ≡ false = ap (λ ls. begins_with (codes "crossed") (record { line = s.line; lines = ls })) e ∙ stops s.line in
    (s, no_mark_in version s (version == 1) refl none, e)
mark_again version s (Some cone) ts h e stops =
    let n = (next_spelled _ _ _ mark_spelled).again s cone ts (record { above = omega arith; below = h.0 }) e in
    let later : (version == 1) ≡ false = rw h.1 refl in
    let here : begins_with (codes "crossed") s ≡ true = ap (λ ls. begins_with (codes "crossed") (record { line = s.line; lines = ls })) e ∙ mark_begins cone s.line ts h.0 in
    (n.0, rw (later, here, n.1) refl, n.2)

facets_no_mark : (version k : ℕ) (fs : List Facet) (ts : List (List ℕ)) → 1 ≤ length fs → AllByRecursion (IsFacet version k) fs → (n : ℕ)
    → begins_with (codes "crossed") (record { line = n; lines = map (λ f. line_text (facet_words version f)) fs ++ ts }) ≡ false
facets_no_mark version k [] ts some h n = absurd (omega (arith, some))
facets_no_mark version k (f ∷ fs) ts some h n =
    begins_other (codes "crossed") (codes "facet") n (line_text (facet_words version f)) (map (λ f. line_text (facet_words version f)) fs ++ ts) _ (omega arith) refl (feed_is (spaced (facet_words version f)))
    (plain_fields (facet_words version f) ((facet_spelled version k).plain f h.0))

-- ---- a chamber

chamber_joined : (version n : ℕ) (c : Chamber) (ls a b d d2 : List (List ℕ)) (l : List ℕ) → ls ≡ l ∷ a → l ≡ line_text (number_words (codes "chamber") n) → a ≡ map (λ v. line_text (ray_words v)) c.rays ++ b
    → b ≡ line_text (weight_words c.weight) ∷ [] ++ d → d ≡ mark_lines c.crossed ++ d2 → (e : List (List ℕ)) → d2 ≡ map (λ f. line_text (facet_words version f)) c.facets ++ e → ls ≡ chamber_lines version n c ++ e
chamber_joined version n c ls a b d d2 l h0 h1 h2 h3 h4 e h5 =
    let facets = map (λ f. line_text (facet_words version f)) c.facets in
    let rays = map (λ v. line_text (ray_words v)) c.rays in
    let marks = h4 ∙ ap (λ x. mark_lines c.crossed ++ x) h5 ∙ sym (append_assoc (mark_lines c.crossed) facets e) in
    h0 ∙ (λ i. h1 i ∷ (h2 ∙ ap (λ x. rays ++ x) (h3 ∙ ap (λ x. line_text (weight_words c.weight) ∷ x) marks)
    ∙ sym (append_assoc rays (line_text (weight_words c.weight) ∷ mark_lines c.crossed ++ facets) e)) i)

pub record TakesChamber (version k : ℕ) (s after : Numbered) (c : Chamber) : Type 0 where
  pub lines : s.text.lines ≡ chamber_lines version s.number c ++ after.text.lines
  pub fits : FitsChamber version k c
  pub number : after.number ≡ s.number + 1

listed_some : 1 ≤ LISTED
listed_some = omega arith

chamber_takes : (version k : ℕ) → IsVersion version → (s after : Numbered) (c : Chamber) → s.number ≤ LISTED → chamber_at version k s ≡ Ok (c, after) → TakesChamber version k s after c
unfolding chamber_at
chamber_takes version k known s after c few e =
    let n = bind_ok (next_by (number_line (codes "chamber") s.number s.number) s.text) _ (c, after) e in
    let r = bind_ok (some_at (codes "ray") LISTED (ray_line k) n.0.1) _ (c, after) n.2 in
    let w = bind_ok (next_by (weight_line k) r.0.1) _ (c, after) r.2 in
    let m = bind_ok (mark_at version w.0.1) _ (c, after) w.2 in
    let f = bind_ok (some_at (codes "facet") LISTED (facet_line version k) m.0.1) _ (c, after) m.2 in
    let p = ok_is (record { rays = r.0.0; weight = w.0.0; crossed = m.0.0; facets = f.0.0 }, record { number = s.number + 1; text = f.0.1 }) (c, after) f.2 in
    let tn = (next_spelled _ _ _ (at_number s.number few)).takes s.text n.0.1 n.0.0 n.1 in
    let tr = some_takes (codes "ray") _ _ _ (rays_spelled k) LISTED listed_some n.0.1 r.0.1 r.0.0 r.1 in
    let tw = (next_spelled _ _ _ (weights_spelled k)).takes r.0.1 w.0.1 w.0.0 w.1 in
    let tm = mark_takes version known w.0.1 m.0.1 m.0.0 m.1 in
    let tf = some_takes (codes "facet") _ _ _ (facet_spelled version k) LISTED listed_some m.0.1 f.0.1 f.0.0 f.1 in
    let made : Chamber = record { rays = r.0.0; weight = w.0.0; crossed = m.0.0; facets = f.0.0 } in
    let line = ap (λ m. line_text (number_words (codes "chamber") m)) (this_number s.number n.0.0 tn.1) in
    subst (λ (q : Chamber × Numbered). TakesChamber version k s q.1 q.0) p (record {
      lines = chamber_joined version s.number made s.text.lines n.0.1.lines r.0.1.lines w.0.1.lines m.0.1.lines _ tn.0 line tr.0 tw.0 tm.0 f.0.1.lines tf.0;
      fits = record {
        ray_count = is_count _ tr.2;
        rays = all_map (IsRay k) _ (ray_fits k) r.0.0 tr.1;
        weight = weight_fits k w.0.0 tw.1;
        mark = tm.1;
        facet_count = is_count _ tf.2;
        facets = all_map (IsFacet version k) _ (facet_fits version k) f.0.0 tf.1;
      };
      number = refl;
    })

weight_stops : (k : ℕ) (v : Vector) → IsWeight k v → (ls : List (List ℕ)) (n : ℕ) → begins_with (codes "ray") (record { line = n; lines = line_text (weight_words v) ∷ ls }) ≡ false
weight_stops k v h ls n =
    begins_other (codes "ray") (codes "weight") n (line_text (weight_words v)) ls _ (omega arith) refl (feed_is (spaced (weight_words v))) (plain_fields (weight_words v) ((weights_spelled k).plain v h))

chamber_again : (version k : ℕ) (s : Numbered) (c : Chamber) (ts : List (List ℕ)) → s.number ≤ LISTED → FitsChamber version k c → s.text.lines ≡ chamber_lines version s.number c ++ ts
    → ((n : ℕ) → begins_with (codes "facet") (record { line = n; lines = ts }) ≡ false)
    → (after : Numbered) × (chamber_at version k s ≡ Ok (c, after)) × (after.text.lines ≡ ts) × (after.number ≡ s.number + 1)
unfolding chamber_at
chamber_again version k s c ts few h e stops =
    let facets = map (λ f. line_text (facet_words version f)) c.facets in
    let weight = line_text (weight_words c.weight) in
    let marks = mark_lines c.crossed in
    let rays = map (λ v. line_text (ray_words v)) c.rays in
    let w_fits = fits_weight k c.weight h.weight in
    let f_fits = all_map _ (IsFacet version k) (fits_facet version k) c.facets h.facets in
    let n = (next_spelled _ _ _ (at_number s.number few)).again s.text s.number (rays ++ (weight ∷ marks ++ (facets ++ ts))) (number_itself s.number)
    (e ∙ ap (λ x. line_text (number_words (codes "chamber") s.number) ∷ x) (append_assoc rays (weight ∷ marks ++ facets) ts ∙ ap (λ x. rays ++ (weight ∷ x)) (append_assoc marks facets ts))) in
    let r = some_again (codes "ray") _ _ _ (rays_spelled k) (rays_begin k) LISTED n.0 c.rays (weight ∷ marks ++ (facets ++ ts)) (all_map _ (IsRay k) (fits_ray k) c.rays h.rays) (count_is _ h.ray_count) n.2 (weight_stops k c.weight w_fits (marks ++ (facets ++ ts))) in
    let w = (next_spelled _ _ _ (weights_spelled k)).again r.0 c.weight (marks ++ (facets ++ ts)) w_fits r.2 in
    let m = mark_again version w.0 c.crossed (facets ++ ts) h.mark w.2 (facets_no_mark version k c.facets ts h.facet_count.0 f_fits) in
    let f = some_again (codes "facet") _ _ _ (facet_spelled version k) (facets_begin version k) LISTED m.0 c.facets ts f_fits (count_is _ h.facet_count) m.2 stops in
    (record { number = s.number + 1; text = f.0 }, rw (n.1, r.1, w.1, m.1, f.1) refl, f.2, refl)

-- ---- chambers

pub record TakesChambers (version k : ℕ) (s after : Numbered) (cs : List Chamber) : Type 0 where
  pub lines : s.text.lines ≡ chambers_lines version s.number cs ++ after.text.lines
  pub fits : AllByRecursion (FitsChamber version k) cs

chambers_take : (version k : ℕ) → IsVersion version → (n : ℕ) (s after : Numbered) (cs : List Chamber) → s.number + n ≤ LISTED + 1 → chambers_at version k n s ≡ Ok (cs, after) → TakesChambers version k s after cs × (length cs ≡ n)
unfolding times
chambers_take version k known zero s after cs few e =
    let p = ok_is ([], s) (cs, after) e in
    subst (λ (q : List Chamber × Numbered). TakesChambers version k s q.1 q.0 × (length q.0 ≡ 0)) p (record { lines = refl; fits = tt }, refl)
chambers_take version k known (suc n) s after cs few e =
    let a = bind_ok (chamber_at version k s) _ (cs, after) e in
    let b = bind_ok (chambers_at version k n a.0.1) _ (cs, after) a.2 in
    let p = ok_is (a.0.0 ∷ b.0.0, b.0.1) (cs, after) b.2 in
    let one = chamber_takes version k known s a.0.1 a.0.0 (omega (arith, few)) a.1 in
    let more = chambers_take version k known n a.0.1 b.0.1 b.0.0 (omega (arith, few, one.number)) b.1 in
    let rest = more.0.lines ∙ ap (λ m. chambers_lines version m b.0.0 ++ b.0.1.text.lines) one.number in
    subst (λ (q : List Chamber × Numbered). TakesChambers version k s q.1 q.0 × (length q.0 ≡ suc n)) p
    (record { lines = one.lines ∙ ap (λ x. chamber_lines version s.number a.0.0 ++ x) rest ∙ sym (append_assoc (chamber_lines version s.number a.0.0) (chambers_lines version (s.number + 1) b.0.0) b.0.1.text.lines); fits = (one.fits, more.0.fits) }, ap suc more.1)

chamber_stops : (version n : ℕ) (c : Chamber) (ls : List (List ℕ)) (line : ℕ) → n ≤ LISTED → begins_with (codes "facet") (record { line = line; lines = chamber_lines version n c ++ ls }) ≡ false
chamber_stops version n c ls line few =
    begins_other (codes "facet") (codes "chamber") line (line_text (number_words (codes "chamber") n)) _ _ (omega arith) refl (feed_is (spaced (number_words (codes "chamber") n)))
    (plain_fields (number_words (codes "chamber") n) ((at_number n few).plain n (number_itself n)))

rest_stops : (version n : ℕ) (cs : List Chamber) (ts : List (List ℕ)) → n + length cs ≤ LISTED + 1 → ((line : ℕ) → begins_with (codes "facet") (record { line = line; lines = ts }) ≡ false)
    → (line : ℕ) → begins_with (codes "facet") (record { line = line; lines = chambers_lines version n cs ++ ts }) ≡ false
rest_stops version n [] ts few stops line = stops line
rest_stops version n (c ∷ cs) ts few stops line =
    ap (λ x. begins_with (codes "facet") (record { line = line; lines = x })) (append_assoc (chamber_lines version n c) (chambers_lines version (n + 1) cs) ts) ∙ chamber_stops version n c (chambers_lines version (n + 1) cs ++ ts) line (omega (arith, few))

chambers_again : (version k : ℕ) (cs : List Chamber) (s : Numbered) (ts : List (List ℕ)) → s.number + length cs ≤ LISTED + 1 → AllByRecursion (FitsChamber version k) cs → s.text.lines ≡ chambers_lines version s.number cs ++ ts
    → ((n : ℕ) → begins_with (codes "facet") (record { line = n; lines = ts }) ≡ false)
    → (after : Numbered) × (chambers_at version k (length cs) s ≡ Ok (cs, after)) × (after.text.lines ≡ ts)
unfolding times
chambers_again version k [] s ts few h e stops = (s, refl, e)
chambers_again version k (c ∷ cs) s ts few h e stops =
    let rest = chambers_lines version (s.number + 1) cs ++ ts in
    let one = chamber_again version k s c rest (omega (arith, few)) h.0 (e ∙ append_assoc (chamber_lines version s.number c) (chambers_lines version (s.number + 1) cs) ts) (rest_stops version (s.number + 1) cs ts (omega (arith, few)) stops) in
    let more = chambers_again version k cs one.0 ts (omega (arith, few, one.3)) h.1 (one.2 ∙ ap (λ m. chambers_lines version m cs ++ ts) (sym one.3)) stops in
    (more.0, rw (one.1, more.1) refl, more.2)

-- ---- the lines before the first chamber

version_spelled : LineSpelled (header_line (codes "gitfan-listing") 2) (number_words (codes "gitfan-listing")) (IsNumber 1 2)
version_spelled = header_spelled (codes "gitfan-listing") 2 format_word (omega arith)

count_spelled : (word : List ℕ) → IsPlainWord word → LineSpelled (number_line word 1 LISTED) (number_words word) (IsNumber 1 LISTED)
count_spelled word plain = number_spelled word 1 LISTED plain (omega arith)

is_version : (version : ℕ) → IsNumber 1 2 version → IsVersion version
is_version zero h = absurd (omega (arith, h.above))
is_version (suc zero) h = inl refl
is_version (suc (suc zero)) h = inr refl
is_version (suc (suc (suc n))) h = absurd (omega (arith, h.below))

version_is : (version : ℕ) → IsVersion version → IsNumber 1 2 version
version_is version (inl e) = record { above = omega (arith, e); below = omega (arith, e) }
version_is version (inr e) = record { above = omega (arith, e); below = omega (arith, e) }

pub record FitsHead (h : HeadValue) : Type 0 where
  pub version : IsVersion h.version
  pub sizes : AreSizes h.sizes
  pub cones : IsCount h.cones
  pub count : IsCount h.count

head_spelled : Spelled head_at (λ s. s.lines) head_lines FitsHead
unfolding head_at
head_spelled = record {
  takes = λ s after h e.
      let a = bind_ok (next_by (header_line (codes "gitfan-listing") 2) s) _ (h, after) e in
      let b = bind_ok (next_by sizes_line a.0.1) _ (h, after) a.2 in
      let c = bind_ok (next_by (number_line (codes "cones") 1 LISTED) b.0.1) _ (h, after) b.2 in
      let d = bind_ok (next_by (number_line (codes "chambers") 1 LISTED) c.0.1) _ (h, after) c.2 in
      let made : HeadValue = record { version = a.0.0; sizes = b.0.0; cones = c.0.0; count = d.0.0 } in
      let p = ok_is (made, d.0.1) (h, after) d.2 in
      let ta = (next_spelled _ _ _ version_spelled).takes s a.0.1 a.0.0 a.1 in
      let tb = (next_spelled _ _ _ sizes_spelled).takes a.0.1 b.0.1 b.0.0 b.1 in
      let tc = (next_spelled _ _ _ (count_spelled (codes "cones") cones_word)).takes b.0.1 c.0.1 c.0.0 c.1 in
      let td = (next_spelled _ _ _ (count_spelled (codes "chambers") chambers_word)).takes c.0.1 d.0.1 d.0.0 d.1 in
      let is : s.lines ≡ head_lines made ++ d.0.1.lines =
      ta.0 ∙ ap (λ x. line_text (number_words (codes "gitfan-listing") a.0.0) ∷ x) (tb.0 ∙ ap (λ x. line_text (sizes_words b.0.0) ∷ x) (tc.0 ∙ ap (λ x. line_text (number_words (codes "cones") c.0.0) ∷ x) td.0)) in
      subst (λ (q : HeadValue × RestOfText). (s.lines ≡ head_lines q.0 ++ q.1.lines) × FitsHead q.0) p (is, record { version = is_version a.0.0 ta.1; sizes = tb.1; cones = is_count c.0.0 tc.1; count = is_count d.0.0 td.1 });
  again = λ s h ts f e.
      let a = (next_spelled _ _ _ version_spelled).again s h.version _ (version_is h.version f.version) e in
      let b = (next_spelled _ _ _ sizes_spelled).again a.0 h.sizes _ f.sizes a.2 in
      let c = (next_spelled _ _ _ (count_spelled (codes "cones") cones_word)).again b.0 h.cones _ (count_is h.cones f.cones) b.2 in
      let d = (next_spelled _ _ _ (count_spelled (codes "chambers") chambers_word)).again c.0 h.count ts (count_is h.count f.count) c.2 in
      (d.0, rw (a.1, b.1, c.1, d.1) refl, d.2);
}

-- ---- the whole

end_stops : (ls : List (List ℕ)) (n : ℕ) → begins_with (codes "facet") (record { line = n; lines = line_text end_words ∷ ls }) ≡ false
end_stops ls n =
    begins_other (codes "facet") (codes "end") n (line_text end_words) ls [] (omega arith) refl (feed_is (codes "end")) (plain_fields end_words (end_spelled.plain tt tt))

pub listing_spelled : Spelled listing_at (λ s. s.lines) listing_lines FitsListing
unfolding listing_at
listing_spelled = record {
  takes = λ s after l e.
      let h = bind_ok (head_at s) _ (l, after) e in
      let c = bind_ok (chambers_at h.0.0.version h.0.0.sizes.0 h.0.0.count (record { number = 1; text = h.0.1 })) _ (l, after) h.2 in
      let z = bind_ok (next_by end_line c.0.1.text) _ (l, after) c.2 in
      let made : Listing = record { version = h.0.0.version; k = h.0.0.sizes.0; r = h.0.0.sizes.1; cones = h.0.0.cones; chambers = c.0.0 } in
      let p = ok_is (made, z.0.1) (l, after) z.2 in
      let th = head_spelled.takes s h.0.1 h.0.0 h.1 in
      let tc = chambers_take h.0.0.version h.0.0.sizes.0 th.1.version h.0.0.count (record { number = 1; text = h.0.1 }) c.0.1 c.0.0 (omega (arith, th.1.count.1)) c.1 in
      let tz = (next_spelled _ _ _ end_spelled).takes c.0.1.text z.0.1 z.0.0 z.1 in
      let rest = tc.0.lines ∙ ap (λ x. chambers_lines h.0.0.version 1 c.0.0 ++ x) tz.0 ∙ sym (append_assoc (chambers_lines h.0.0.version 1 c.0.0) (line_text end_words ∷ []) z.0.1.lines) in
      let is : s.lines ≡ listing_lines made ++ z.0.1.lines =
      th.0 ∙ (let count = sym tc.1 in (λ i. line_text (number_words (codes "gitfan-listing") h.0.0.version) ∷ line_text (sizes_words h.0.0.sizes) ∷ line_text (number_words (codes "cones") h.0.0.cones) ∷ line_text (number_words (codes "chambers") (count i)) ∷ rest i)) in
      subst (λ (q : Listing × RestOfText). (s.lines ≡ listing_lines q.0 ++ q.1.lines) × FitsListing q.0) p
      (is, record { version = th.1.version; sizes = th.1.sizes; cones = th.1.cones; chamber_count = subst IsCount (sym tc.1) th.1.count; chambers = tc.0.fits });
  again = λ s l ts f e.
      let last = line_text end_words in
      let lines = chambers_lines l.version 1 l.chambers in
      let h = head_spelled.again s (head_value l) (lines ++ (last ∷ ts)) (record { version = f.version; sizes = f.sizes; cones = f.cones; count = f.chamber_count })
      (e ∙ append_assoc (head_lines (head_value l)) (lines ++ (last ∷ [])) ts ∙ ap (λ x. head_lines (head_value l) ++ x) (append_assoc lines (last ∷ []) ts)) in
      let c = chambers_again l.version l.k l.chambers (record { number = 1; text = h.0 }) (last ∷ ts) (omega (arith, f.chamber_count.1)) f.chambers h.2 (end_stops ts) in
      let z = (next_spelled _ _ _ end_spelled).again c.0.text tt ts tt c.2 in
      (z.0, rw (h.1, c.1, z.1) refl, z.2);
}

-- ---- each line ends where it was written to end

mark_text_lines : (version : ℕ) (m : Option ℕ) → FitsMark version m → AreTextLines (mark_lines m)
mark_text_lines version None h = tt
mark_text_lines version (Some cone) h = (words_line (number_words (codes "crossed") cone) (mark_spelled.plain cone (record { above = omega arith; below = h.0 })), tt)

chamber_text_lines : (version k n : ℕ) (c : Chamber) → n ≤ LISTED → FitsChamber version k c → AreTextLines (chamber_lines version n c)
chamber_text_lines version k n c few f = (
  words_line (number_words (codes "chamber") n) ((at_number n few).plain n (number_itself n)),
  text_lines_append (map (λ v. line_text (ray_words v)) c.rays) (line_text (weight_words c.weight) ∷ mark_lines c.crossed ++ map (λ f. line_text (facet_words version f)) c.facets)
      (map_lines ray_words (IsRay k) (rays_spelled k).plain c.rays (all_map _ (IsRay k) (fits_ray k) c.rays f.rays)) (
        words_line (weight_words c.weight) ((weights_spelled k).plain c.weight (fits_weight k c.weight f.weight)),
        text_lines_append (mark_lines c.crossed) (map (λ f. line_text (facet_words version f)) c.facets) (mark_text_lines version c.crossed f.mark)
            (map_lines (facet_words version) (IsFacet version k) (facet_spelled version k).plain c.facets (all_map _ (IsFacet version k) (fits_facet version k) c.facets f.facets)),
      ),
)

chambers_text_lines : (version k n : ℕ) (cs : List Chamber) → n + length cs ≤ LISTED + 1 → AllByRecursion (FitsChamber version k) cs → AreTextLines (chambers_lines version n cs)
chambers_text_lines version k n [] few h = tt
chambers_text_lines version k n (c ∷ cs) few h =
    text_lines_append (chamber_lines version n c) (chambers_lines version (n + 1) cs) (chamber_text_lines version k n c (omega (arith, few)) h.0) (chambers_text_lines version k (n + 1) cs (omega (arith, few)) h.1)

pub listing_text_lines : (l : Listing) → FitsListing l → AreTextLines (listing_lines l)
listing_text_lines l f = (
  words_line (number_words (codes "gitfan-listing") l.version) (version_spelled.plain l.version (version_is l.version f.version)),
  (
    words_line (sizes_words (l.k, l.r)) (sizes_spelled.plain (l.k, l.r) f.sizes),
    (
      words_line (number_words (codes "cones") l.cones) ((count_spelled (codes "cones") cones_word).plain l.cones (count_is l.cones f.cones)),
      (
        words_line (number_words (codes "chambers") (length l.chambers)) ((count_spelled (codes "chambers") chambers_word).plain (length l.chambers) (count_is (length l.chambers) f.chamber_count)),
        text_lines_append (chambers_lines l.version 1 l.chambers) (line_text end_words ∷ []) (chambers_text_lines l.version l.k 1 l.chambers (omega (arith, f.chamber_count.1)) f.chambers) (words_line end_words (end_spelled.plain tt tt), tt),
      ),
    ),
  ),
)
