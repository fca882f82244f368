-- A reach has one list in order, and has it or is larger than any limit.
use Rattle.std.proofs.Common.{◌≡◌, ◌≢◌, ◌⊎◌, inl, inr, ℕ, zero, suc, ◌+◌, ◌≤◌, List, [], ◌∷◌, ◌++◌, length, get_or, refl, sym, ◌∙◌, ap, subst, arith, append-nil, append_assoc}
use Rattle.std.specs.Ordering.{is_eq, ordering_reverse}
use Rattle.std.specs.declared.cmp.Ordering.{Ordering}
use Rattle.std.specs.declared.cmp.Ordering.TheVariants.{Less, Equal, Greater}
use Rattle.std.specs.Cmp.{tied_itself}
use Rattle.std.proofs.lemmas.Bool.{cases_lt}
use Rattle.std.proofs.lemmas.List.Elements.{All-contains, All-contains_itself}
use Rattle.indexmap.specs.IndexSet.{insert_key}
use Rattle.git_lemmas.proofs.Members.{member_contains, contains_member, member_all, all_member}
use Rattle.git_lemmas.proofs.Sorting.{AreComparable, sort, pairs_of_ascends, ascends_of_pairs, once as one_ascending}
use Rattle.git_machine.specs.Signatures.{Signature, signature_cmp}
use Rattle.git_machine.specs.Ties.{signature_total, equal_words, level_words}
use Rattle.git_machine.specs.Reach.{IsOnce, Reached, IsReach, ReachExceeds}
use Rattle.git_machine.proofs.Once.{tail_once}
use Rattle.git_machine.proofs.Written.{same_read}
use Rattle.git_plain.specs.Closing.{InOrder, IsGrown, IsClosedTo}
use Rattle.git_plain.specs.Laws.{IsListed}
use Rattle.git_plain.proofs.Grows.{same, starts, grows}
use Rattle.git_plain.proofs.Closes.{opens, steps, ends, overflows}

abbrev Before : Signature → Signature → Type 0
Before a b = signature_cmp a b ≡ Less

not_before_itself : (a : Signature) → Before a a → ⊥
not_before_itself a less = let level : Less ≡ Equal = sym less ∙ tied_itself signature_total a in cc

-- ---- one list in order
pub one_list : (next : Signature → List Signature → Type 0) (first : Signature) (xs ys : List Signature) → IsReach next first xs → IsReach next first ys → InOrder xs → InOrder ys → xs ≡ ys
one_list next first xs ys p q a b =
    one_ascending Before not_before_itself signature_total.trans xs ys (ascends_of_pairs Before xs a) (ascends_of_pairs Before ys b)
    (λ s m. contains_member s ys (q.complete s (all_member (Reached next first) s xs p.sound m)))
    (λ s m. contains_member s xs (p.complete s (all_member (Reached next first) s ys q.sound m)))

-- ---- any list with nothing twice can be put in order
differ : (a b : Signature) (o : Ordering) → signature_cmp a b ≡ o → (a ≢ b) → Before a b ⊎ Before b a
differ a b Less e apart = inl e
differ a b Equal e apart = absurd (apart ((equal_words a b).0 (level_words a b (ap is_eq e))))
differ a b Greater e apart = inr (signature_total.antisymm b a ∙ ap ordering_reverse e)

comparable : (xs : List Signature) → IsOnce xs → AreComparable Before xs
comparable [] once = tt
comparable (x ∷ xs) once = (
  λ y m.
      let at = member_contains y xs m in
      differ x y (signature_cmp x y) refl (λ e. once 0 (suc at.0) y (omega arith) (let low = at.1 in omega arith) (e ∙ sym at.2)),
  comparable xs (tail_once x xs once),
)

in_order : (next : Signature → List Signature → Type 0) (first : Signature) (cap : ℕ) (xs : List Signature) → IsReach next first xs → length xs ≤ cap → (ys : List Signature) × IsListed next first cap ys
in_order next first cap xs reach few =
    let sorted = sort Before signature_total.trans xs (comparable xs reach.once) in
    let ys : List Signature = sorted.0 in
    let is = sorted.1 in
    let order : InOrder ys = pairs_of_ascends Before ys is.ascends in (
      ys,
      record {
        reach = record {
          sound = member_all (Reached next first) ys (λ s m. all_member (Reached next first) s xs reach.sound (is.back s m));
          complete = λ s way. member_contains s ys (is.to s (contains_member s xs (reach.complete s way)));
          once = λ i j d less low same. not_before_itself (get_or ys j d) (subst (λ (a : Signature). Before a (get_or ys j d)) same (order i j d less low));
        };
        order = order;
        few = let e = is.size in omega arith;
      },
    )

-- ---- closing by steps
grown_all : (old done now : List Signature) → IsGrown old done now → (rest : List Signature) → (new : List Signature) × IsGrown old (done ++ rest) new
grown_all old done now h [] = (now, subst (λ (l : List Signature). IsGrown old l now) (sym (append-nil done)) h)
grown_all old done now h (x ∷ rest) =
    let r = grown_all old (done ++ x ∷ []) (insert_key same now x) (grows old done now x h) rest in (r.0, subst (λ (l : List Signature). IsGrown old l r.0) (append_assoc done (x ∷ []) rest) r.1)

abbrev Any : Signature → Type 0
Any s = Unit {0}

module _ (next : Signature → List Signature → Type 0) (first : Signature) (cap : ℕ) (has : (s : Signature) → Reached next first s → (ns : List Signature) × next s ns)
    (one : (s : Signature) (a b : List Signature) → Reached next first s → next s a → next s b → a ≡ b) where
  abbrev Answer : Type 0
  Answer = ReachExceeds next first cap ⊎ ((xs : List Signature) × IsListed next first cap xs)

  closes : (fuel n : ℕ) (xs : List Signature) → IsClosedTo next first Any xs n → length xs ≤ cap → cap ≤ n + fuel → Answer
  closes zero n xs h few enough = inr (in_order next first cap xs (ends next first Any xs n h (omega arith)) few)
  closes (suc fuel) n xs h few enough = elim (cases_lt n (length xs)) [
    | inr all ↦ inr (in_order next first cap xs (ends next first Any xs n h all) few)
    | inl inside ↦
        let x : Signature = get_or xs n [] in
        let is : get_or xs n x ≡ x = same_read xs n x [] inside in
        let way : Reached next first x = All-contains (Reached next first) xs x h.sound (n, inside, is) in
        let ns = has x way in
        let new = grown_all xs [] xs (starts xs h.once) ns.0 in
        elim (cases_lt cap (length new.0)) [
          | inl many ↦ inl (overflows next first Any xs ns.0 n x h inside is ns.1 cap ns.0 new.0 (All-contains_itself ns.0) new.1 many)
          | inr fits ↦ closes fuel (n + 1) new.0 (steps next first Any xs ns.0 n x h inside is ns.1 new.0 new.1 (λ a r. one x a ns.0 way r ns.1) (λ k d low. tt)) fits (omega arith)
        ]
  ]

  pub listed_or_exceeds : Answer
  listed_or_exceeds = elim (cases_lt cap 1) [
    | inl none ↦ inl (record {
      some = first ∷ [];
      many = omega arith;
      reached = λ k d low. (let e : k ≡ 0 = omega arith in subst (λ (m : ℕ). Reached next first (get_or (first ∷ []) m d)) (sym e) ([], refl));
      once = λ i j d less low. absurd (omega arith);
    })
    | inr some ↦ closes cap 0 (first ∷ []) (opens next first Any tt) (omega arith) (omega arith)
  ]
