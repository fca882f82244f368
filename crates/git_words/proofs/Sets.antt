-- What settings set, one after the other.
use Rattle.std.proofs.Common.{◌≡◌, ◌∙◌, ℕ, ◌≤◌, List, [], ◌∷◌, ◌++◌, length, append_assoc, Option, Some, None, Bool, true, false, inl, inr, refl, sym, ap, subst, arith}
use Rattle.std.specs.Prelude.{IfSome}
use Rattle.std.specs.Option.{option_to_list}
use Rattle.std.proofs.lemmas.List.{length-append}
use Rattle.git_words.specs.declared.commands.TheConstants.{WORKERS_UNSET, TABLE_UNSET, STEPS_UNSET}
use Rattle.git_words.specs.declared.settings.Setting.{Setting}
use Rattle.git_words.specs.declared.settings.Setting.TheVariants.{Workers, Table, Steps, Certs}
use Rattle.git_words.specs.declared.options.Options.{Options}
use Rattle.git_words.specs.declared.options.TheConstants.{UNSET}
use Rattle.git_words.specs.Words.{Begins, AreSettings, Adds, AddsOne, IsTwice, SetsMore, SetsForFan, IsFan, IsFaces, IsQuestion, IsGiven, given, flag, workers_of, table_of, steps_of, certs_of}
use Rattle.git_words.proofs.Numbers.{held, short_option, short_flag, one_given}
use Rattle.git_words.proofs.OneSetting.{no_begin, one_begin, one_list, subst_begins, are_by}

joined_up : {A : Type 0} (before mid after one more : List A) → mid ≡ before ++ one → after ≡ mid ++ more → after ≡ before ++ (one ++ more)
joined_up before mid after one more p q = q ∙ ap (λ l. l ++ more) p ∙ append_assoc before one more

-- one setting, and then the others
pub adds_more : (before mid after : Options) (s : Setting) (words rest : List (List ℕ)) → Begins s words rest → AddsOne before s mid → Adds mid rest after → Adds before words after
adds_more before mid after s words rest begins one h = record {
  settings = s ∷ h.settings;
  are = (rest, begins, h.are);
  workers = joined_up _ _ _ _ _ one.workers h.workers;
  table = joined_up _ _ _ _ _ one.table h.table;
  steps = joined_up _ _ _ _ _ one.steps h.steps;
  certs = joined_up _ _ _ _ _ one.certs h.certs;
}

-- what settings set, by their list
record Sums (before : Options) (settings : List Setting) (after : Options) : Type 0 where
  workers : option_to_list after.workers ≡ option_to_list before.workers ++ given workers_of settings
  table : option_to_list after.table ≡ option_to_list before.table ++ given table_of settings
  steps : option_to_list after.steps ≡ option_to_list before.steps ++ given steps_of settings
  certs : flag after.certs ≡ flag before.certs ++ given certs_of settings

record Splits (before : Options) (s : Setting) (rest : List (List ℕ)) (after : Options) : Type 0 where
  settings : List Setting
  are : AreSettings settings rest
  sums : Sums before (s ∷ settings) after

split_by : (before after : Options) (settings : List Setting) (s : Setting) (words rest : List (List ℕ)) → Begins s words rest → AreSettings settings words → Sums before settings after → Splits before s rest after
split_by before after [] s words rest begins are sums = absurd (no_begin s rest (subst_begins s words [] rest are begins))
split_by before after (t ∷ settings) s words rest begins are sums =
    let h = one_begin t s words are.0 rest are.1 begins in
    record { settings = settings; are = are_by settings are.0 rest h.1 are.2; sums = subst (λ u. Sums before (u ∷ settings) after) h.0 sums }

-- words that begin with a setting set it, and then the others
splits : (before after : Options) (s : Setting) (words rest : List (List ℕ)) → Begins s words rest → Adds before words after → Splits before s rest after
splits before after s words rest begins h = split_by before after h.settings s words rest begins h.are (record { workers = h.workers; table = h.table; steps = h.steps; certs = h.certs })

taken_off : {A : Type 0} (before mid after one more : List A) → mid ≡ before ++ one → after ≡ before ++ (one ++ more) → after ≡ mid ++ more
taken_off before mid after one more p q = q ∙ sym (append_assoc before one more) ∙ ap (λ l. l ++ more) (sym p)

pub adds_rest : (before mid after : Options) (s : Setting) (words rest : List (List ℕ)) → Begins s words rest → AddsOne before s mid → Adds before words after → Adds mid rest after
adds_rest before mid after s words rest begins one h =
    let k = splits before after s words rest begins h in
    record {
      settings = k.settings;
      are = k.are;
      workers = taken_off _ _ _ _ _ one.workers k.sums.workers;
      table = taken_off _ _ _ _ _ one.table k.sums.table;
      steps = taken_off _ _ _ _ _ one.steps k.sums.steps;
      certs = taken_off _ _ _ _ _ one.certs k.sums.certs;
    }

too_long : {A : Type 0} (before after one more : List A) → length after ≤ 1 → 2 ≤ length (before ++ one) → after ≡ before ++ (one ++ more) → ⊥
too_long before after one more short long e =
    let h = ap (λ l. length l) (e ∙ sym (append_assoc before one more)) in let k = length-append (before ++ one) more in omega (arith, h, k, short, long)

pub twice : (before after : Options) (s : Setting) (words rest : List (List ℕ)) → Begins s words rest → IsTwice before s → Adds before words after → ⊥
twice before after s words rest begins more h = by more (splits before after s words rest begins h) where
  by : IsTwice before s → Splits before s rest after → ⊥
  by (inl long) k = too_long (option_to_list before.workers) (option_to_list after.workers) (workers_of s) (given workers_of k.settings) (short_option after.workers) long k.sums.workers
  by (inr (inl long)) k = too_long (option_to_list before.table) (option_to_list after.table) (table_of s) (given table_of k.settings) (short_option after.table) long k.sums.table
  by (inr (inr (inl long))) k = too_long (option_to_list before.steps) (option_to_list after.steps) (steps_of s) (given steps_of k.settings) (short_option after.steps) long k.sums.steps
  by (inr (inr (inr long))) k = too_long (flag before.certs) (flag after.certs) (certs_of s) (given certs_of k.settings) (short_flag after.certs) long k.sums.certs

none_by : (words : List (List ℕ)) (settings : List Setting) → (words ≡ [] → ⊥) → ((s : Setting) (rest : List (List ℕ)) → Begins s words rest → ⊥) → AreSettings settings words → ⊥
none_by words [] some none are = some are
none_by words (s ∷ settings) some none are = none s are.0 are.1

-- words that begin with no setting set nothing
pub sets_nothing : (before after : Options) (words : List (List ℕ)) → (words ≡ [] → ⊥) → ((s : Setting) (rest : List (List ℕ)) → Begins s words rest → ⊥) → Adds before words after → ⊥
sets_nothing before after words some none h = none_by words h.settings some none h.are

pub adds_found : (before mid : Options) (s : Setting) (words rest : List (List ℕ)) → Begins s words rest → AddsOne before s mid → (r : Option Options) → IfSome r (λ after. Adds mid rest after) → IfSome r (λ after. Adds before words after)
adds_found before mid s words rest begins one None h = h
adds_found before mid s words rest begins one (Some after) h = adds_more before mid after s words rest begins one h

-- ---- the words after `fan` and after `faces`

certs_true : (settings : List Setting) (c : Bool) (more : List Bool) → given certs_of settings ≡ c ∷ more → c ≡ true
certs_true [] c more e = absurd (cc e)
certs_true (Workers n ∷ settings) c more e = certs_true settings c more e
certs_true (Table n ∷ settings) c more e = certs_true settings c more e
certs_true (Steps n ∷ settings) c more e = certs_true settings c more e
certs_true (Certs ∷ settings) c more e = cc e

flag_held : (settings : List Setting) (c : Bool) → IsGiven (given certs_of settings) false c → flag c ≡ given certs_of settings
flag_held settings c (inl p) = ap flag p.1 ∙ sym p.0
flag_held settings c (inr p) = ap flag (certs_true settings c [] p) ∙ (λ i. sym (certs_true settings c [] p) i ∷ []) ∙ sym p

pub fan_adds : (words : List (List ℕ)) (workers table steps : ℕ) (certs : Bool) → IsFan words workers table steps certs → (o : Options) × Adds UNSET words o
fan_adds words workers table steps certs h =
    let w = held (given workers_of h.settings) WORKERS_UNSET workers h.gives_workers in
    let t = held (given table_of h.settings) TABLE_UNSET table h.gives_table in
    let s = held (given steps_of h.settings) STEPS_UNSET steps h.gives_steps in (
      record { workers = w.0; table = t.0; steps = s.0; certs = certs },
      record { settings = h.settings; are = h.are; workers = w.1; table = t.1; steps = s.1; certs = flag_held h.settings certs h.gives_certs },
    )

nothing_held : {A : Type 0} (o : Option A) → option_to_list o ≡ [] → o ≡ None
nothing_held None e = refl
nothing_held (Some a) e = absurd (cc e)

no_flag : (b : Bool) → flag b ≡ [] → b ≡ false
no_flag true e = absurd (cc e)
no_flag false e = refl

pub faces_adds : (words : List (List ℕ)) (steps : ℕ) → IsFaces words steps → (o : Options) × Adds UNSET words o
faces_adds words steps h =
    let s = held (given steps_of h.settings) STEPS_UNSET steps h.gives_steps in (
      record { workers = None; table = None; steps = s.0; certs = false },
      record { settings = h.settings; are = h.are; workers = sym h.no_workers; table = sym h.no_table; steps = s.1; certs = sym h.no_certs },
    )

-- other options than `--steps` are no words of `faces`
pub only_steps : (words : List (List ℕ)) (steps : ℕ) (o : Options) → Adds UNSET words o → IsFaces words steps → (o.workers ≡ None) × (o.table ≡ None) × (o.certs ≡ false)
only_steps words steps o h k =
    let same = one_list h.settings k.settings words h.are k.are in
    (nothing_held o.workers (h.workers ∙ ap (given workers_of) same ∙ k.no_workers), nothing_held o.table (h.table ∙ ap (given table_of) same ∙ k.no_table), no_flag o.certs (h.certs ∙ ap (given certs_of) same ∙ k.no_certs))

pub not_only_steps : (words : List (List ℕ)) (o : Options) → SetsMore o → Adds UNSET words o → (steps : ℕ) → IsFaces words steps → ⊥
not_only_steps words o more h steps k = by more (only_steps words steps o h k) where
  by : SetsMore o → (o.workers ≡ None) × (o.table ≡ None) × (o.certs ≡ false) → ⊥
  by (inl some) none = some none.0
  by (inr (inl some)) none = some none.1
  by (inr (inr some)) none = let e : false ≡ true = sym none.2 ∙ some in cc e

-- ---- the words after a question

pub question_adds : (words : List (List ℕ)) (table steps : ℕ) → IsQuestion words table steps → (o : Options) × Adds UNSET words o
question_adds words table steps h =
    let t = held (given table_of h.settings) TABLE_UNSET table h.gives_table in
    let s = held (given steps_of h.settings) STEPS_UNSET steps h.gives_steps in (
      record { workers = None; table = t.0; steps = s.0; certs = false },
      record { settings = h.settings; are = h.are; workers = sym h.no_workers; table = t.1; steps = s.1; certs = sym h.no_certs },
    )

-- the options of `fan` alone are no words of a question
pub not_for_fan : (words : List (List ℕ)) (o : Options) → SetsForFan o → Adds UNSET words o → (table steps : ℕ) → IsQuestion words table steps → ⊥
not_for_fan words o more h table steps k = by more where
  same : h.settings ≡ k.settings
  same = one_list h.settings k.settings words h.are k.are

  by : SetsForFan o → ⊥
  by (inl some) = some (nothing_held o.workers (h.workers ∙ ap (given workers_of) same ∙ k.no_workers))
  by (inr some) = let e : false ≡ true = sym (no_flag o.certs (h.certs ∙ ap (given certs_of) same ∙ k.no_certs)) ∙ some in cc e

-- ---- one command

pub one_fan : (words : List (List ℕ)) (a b c e f g : ℕ) (p q : Bool) → IsFan words a b c p → IsFan words e f g q → (a ≡ e) × (b ≡ f) × (c ≡ g) × (p ≡ q)
one_fan words a b c e f g p q h k =
    let same = one_list k.settings h.settings words k.are h.are in (
      one_given _ _ _ _ h.gives_workers (moved workers_of k.settings h.settings WORKERS_UNSET e same k.gives_workers),
      one_given _ _ _ _ h.gives_table (moved table_of k.settings h.settings TABLE_UNSET f same k.gives_table),
      one_given _ _ _ _ h.gives_steps (moved steps_of k.settings h.settings STEPS_UNSET g same k.gives_steps),
      one_given _ _ _ _ h.gives_certs (moved certs_of k.settings h.settings false q same k.gives_certs),
    ) where
      moved : {A : Type 0} (gives : Setting → List A) (ss ts : List Setting) (default a : A) → ss ≡ ts → IsGiven (given gives ss) default a → IsGiven (given gives ts) default a
      moved gives ss ts default a e h = subst (λ us. IsGiven (given gives us) default a) e h

pub one_question : (words : List (List ℕ)) (a b e f : ℕ) → IsQuestion words a b → IsQuestion words e f → (a ≡ e) × (b ≡ f)
one_question words a b e f h k =
    let same = one_list k.settings h.settings words k.are h.are in (
      one_given _ _ _ _ h.gives_table (subst (λ us. IsGiven (given table_of us) TABLE_UNSET e) same k.gives_table),
      one_given _ _ _ _ h.gives_steps (subst (λ us. IsGiven (given steps_of us) STEPS_UNSET f) same k.gives_steps),
    )

pub one_faces : (words : List (List ℕ)) (m n : ℕ) → IsFaces words m → IsFaces words n → m ≡ n
one_faces words m n h k =
    let same = one_list k.settings h.settings words k.are h.are in
    one_given (given steps_of h.settings) STEPS_UNSET m n h.gives_steps (subst (λ us. IsGiven (given steps_of us) STEPS_UNSET n) same k.gives_steps)
