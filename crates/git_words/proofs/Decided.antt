-- Words spell a command or none.
use Rattle.std.proofs.Common.{◌≡◌, ◌⊎◌, ◌∙◌, ℕ, zero, suc, ◌≤◌, List, [], ◌∷◌, ◌++◌, length, Option, Some, None, Bool, true, false, inl, inr, refl, sym, ap, subst, arith}
use Rattle.std.specs.Prelude.{codes}
use Rattle.std.specs.Str.{bytes_eq}
use Rattle.std.proofs.lemmas.Bool.{cases_lt}
use Rattle.std.proofs.lemmas.Bool.Decides.{eqb_tells}
use Rattle.std.proofs.lemmas.List.{append_cancel_left, append-nil, length-append}
use Rattle.std.proofs.lemmas.Slice.Eq.{bytes_eq-Decides}
use Rattle.git_lines.specs.Numbers.{natural}
use Rattle.git_words.specs.declared.commands.TheConstants.{WORKERS, TABLE, STEPS, WORKERS_UNSET, TABLE_UNSET, STEPS_UNSET}
use Rattle.git_words.specs.declared.commands.Sample.{Sample}
use Rattle.git_words.specs.declared.commands.Sample.TheVariants.{Points, Plucker}
use Rattle.git_words.specs.declared.commands.Command.{Command}
use Rattle.git_words.specs.declared.commands.Command.TheVariants.{Fan, Faces, Make, AllCones, Locate, Bunch}
use Rattle.git_words.specs.declared.settings.Setting.{Setting}
use Rattle.git_words.specs.declared.settings.Setting.TheVariants.{Workers, Table, Steps, Certs}
use Rattle.git_words.specs.Words.{IsNumberWord, IsNumberIn, Names, NamesNumber, Begins, AreSettings, IsGiven, IsFan, IsFaces, IsQuestion, IsMake, NamesSample, IsCommand, command_word, given, workers_of, table_of, steps_of, certs_of}
use Rattle.git_words.specs.Laws.{CommandOrNone}
use Rattle.git_words.proofs.Numbers.{one_number}
use Rattle.git_words.proofs.OneSetting.{one_begin, one_list, are_by, begins_shorter}
use Rattle.git_words.proofs.Samples.{make_run, make_plain, no_run, no_plain}
use Rattle.git_words.proofs.OneCommand.{is_command, no_fan, no_faces, no_make, no_cones, no_locate, no_bunch}

-- ---- words and numbers

word_same : (w text : List ℕ) (b : Bool) → bytes_eq w text ≡ b → (w ≡ text) ⊎ (w ≡ text → ⊥)
word_same w text true e = inl ((bytes_eq-Decides w text).0 e)
word_same w text false e = inr (λ same. let f : true ≡ false = sym ((bytes_eq-Decides w text).1 same) ∙ e in cc f)

same_word : (w text : List ℕ) → (w ≡ text) ⊎ (w ≡ text → ⊥)
same_word w text = word_same w text (bytes_eq w text) refl

abbrev HasNumber : (least most : ℕ) (word : List ℕ) → Type 0
HasNumber least most word = ((n : ℕ) × IsNumberIn least most word n) ⊎ ((n : ℕ) → IsNumberIn least most word n → ⊥)

number_by : (least most : ℕ) (word : List ℕ) (o : Option ℕ) → natural word ≡ o → HasNumber least most word
number_by least most word None e = inr (λ n h. let f : None ≡ Some n = sym e ∙ h.number.value in cc f)
number_by least most word (Some m) e = elim (cases_lt 9 (length word)) [
  | inl long ↦ inr (λ n h. let short = h.number.short in omega (arith, long, short))
  | inr short ↦ (
      let is : IsNumberWord word m = record { short = short; value = e } in
      elim (cases_lt m least) [
        | inl low ↦ inr (λ n h. let same = one_number word word m n refl is h.number in let enough = h.enough in omega (arith, low, same, enough))
        | inr enough ↦ elim (cases_lt most m) [
          | inl high ↦ inr (λ n h. let same = one_number word word m n refl is h.number in let few = h.few in omega (arith, high, same, few))
          | inr few ↦ inl (m, record { number = is; enough = enough; few = few })
        ]
      ])
]

has_number : (least most : ℕ) (word : List ℕ) → HasNumber least most word
has_number least most word = number_by least most word (natural word) refl

-- ---- options

abbrev HasRest : (name w : List ℕ) → Type 0
HasRest name w = ((v : List ℕ) × (w ≡ name ++ v)) ⊎ ((v : List ℕ) → w ≡ name ++ v → ⊥)

heads : (a b : ℕ) (v w : List ℕ) → a ∷ v ≡ b ∷ w → (a ≡ b) × (v ≡ w)
heads a b v w e = (cc, cc)

has_rest : (name w : List ℕ) → HasRest name w
has_rest [] w = inl (w, refl)
has_rest (a ∷ name) [] = inr (λ v e. cc e)
has_rest (a ∷ name) (b ∷ w) = elim (eqb_tells b a) [
  | inr other ↦ inr (λ v e. other.1 (heads b a w (name ++ v) e).0)
  | inl same ↦ elim (has_rest name w) [
    | inl h ↦ inl (h.0, λ i. same.1 i ∷ h.1 i)
    | inr none ↦ inr (λ v e. none v (heads b a w (name ++ v) e).1)
  ]
]

first_word : (a b : List ℕ) (us vs : List (List ℕ)) → a ∷ us ≡ b ∷ vs → (a ≡ b) × (us ≡ vs)
first_word a b us vs e = (cc, cc)

first_two : (a b c d : List ℕ) (us vs : List (List ℕ)) → a ∷ b ∷ us ≡ c ∷ d ∷ vs → (a ≡ c) × (b ≡ d) × (us ≡ vs)
first_two a b c d us vs e = (cc, cc, cc)

abbrev HasNamed : (name : List ℕ) (most : ℕ) (words : List (List ℕ)) → Type 0
HasNamed name most words = ((n : ℕ) × (rest : List (List ℕ)) × NamesNumber name most n words rest) ⊎ ((n : ℕ) (rest : List (List ℕ)) → NamesNumber name most n words rest → ⊥)

-- the value that the words would have to give is no number
no_value : (name : List ℕ) (most : ℕ) (words : List (List ℕ)) → ((w : List ℕ) (rest : List (List ℕ)) → Names name w words rest → (n : ℕ) → IsNumberIn 1 most w n → ⊥) → HasNamed name most words
no_value name most words none = inr (λ n rest h. none h.word rest h.names n h.number)

named_by : (name : List ℕ) (most : ℕ) (words rest : List (List ℕ)) (w : List ℕ) → Names name w words rest → ((v : List ℕ) (more : List (List ℕ)) → Names name v words more → v ≡ w) → HasNumber 1 most w → HasNamed name most words
named_by name most words rest w names one (inl h) = inl (h.0, rest, record { word = w; names = names; number = h.1 })
named_by name most words rest w names one (inr none) = no_value name most words (λ v more k n m. none n (subst (λ u. IsNumberIn 1 most u n) (one v more k) m))

apart_len : (name v : List ℕ) (b : ℕ) → name ≡ name ++ b ∷ v → ⊥
apart_len name v b e = let h = ap (λ (l : List ℕ). length l) e in let k = length-append name (b ∷ v) in omega (arith, h, k)

-- a first word that is the name
alone : (name : List ℕ) (most : ℕ) (w : List ℕ) (us : List (List ℕ)) → w ≡ name → HasNamed name most (w ∷ us)
alone name most w [] same = no_value name most (w ∷ []) none where
  none : (v : List ℕ) (rest : List (List ℕ)) → Names name v (w ∷ []) rest → (n : ℕ) → IsNumberIn 1 most v n → ⊥
  none v rest (inl e) n m = let h = ap (λ (l : List (List ℕ)). length l) e in omega (arith, h)
  none v rest (inr e) n m = apart_len name v 61 (sym same ∙ (first_word w (name ++ (codes "=" ++ v)) [] rest e).0)
alone name most w (x ∷ us) same = named_by name most (w ∷ x ∷ us) us x (inl (λ i. same i ∷ x ∷ us)) one (has_number 1 most x) where
  one : (v : List ℕ) (more : List (List ℕ)) → Names name v (w ∷ x ∷ us) more → v ≡ x
  one v more (inl e) = sym (first_two w x name v us more e).1
  one v more (inr e) = absurd (apart_len name v 61 (sym same ∙ (first_word w (name ++ (codes "=" ++ v)) (x ∷ us) more e).0))

no_names : (name : List ℕ) (w : List ℕ) (us : List (List ℕ)) → (w ≡ name → ⊥) → ((v : List ℕ) → w ≡ name ++ (codes "=" ++ v) → ⊥) → (v : List ℕ) (rest : List (List ℕ)) → Names name v (w ∷ us) rest → ⊥
no_names name w us apart joined v rest (inl e) = apart (first_word w name us (v ∷ rest) e).0
no_names name w us apart joined v rest (inr e) = joined v (first_word w (name ++ (codes "=" ++ v)) us rest e).0

-- a first word that is the name with more behind it
with_more : (name : List ℕ) (most : ℕ) (w v : List ℕ) (us : List (List ℕ)) → w ≡ name ++ v → HasNamed name most (w ∷ us)
with_more name most w [] us e = alone name most w us (e ∙ append-nil name)
with_more name most w (b ∷ v) us e = elim (eqb_tells b 61) [
  | inl same ↦ named_by name most (w ∷ us) us v (inr (λ i. (e ∙ (λ j. name ++ same.1 j ∷ v)) i ∷ us)) one (has_number 1 most v)
  | inr other ↦ no_value name most (w ∷ us) (λ u rest k n m. no_names name w us apart (λ x f. other.1 (behind x f).0) u rest k)
] where
  apart : w ≡ name → ⊥
  apart f = apart_len name v b (sym f ∙ e)

  behind : (x : List ℕ) → w ≡ name ++ (codes "=" ++ x) → (b ≡ 61) × (v ≡ x)
  behind x f = heads b 61 v x (append_cancel_left name (b ∷ v) (61 ∷ x) (sym e ∙ f))

  one : (x : List ℕ) (more : List (List ℕ)) → Names name x (w ∷ us) more → x ≡ v
  one x more (inl f) = absurd (apart (first_word w name us (x ∷ more) f).0)
  one x more (inr f) = sym (behind x (first_word w (name ++ (codes "=" ++ x)) us more f).0).1

has_named : (name : List ℕ) (most : ℕ) (words : List (List ℕ)) → HasNamed name most words
has_named name most [] = no_value name most [] none where
  none : (w : List ℕ) (rest : List (List ℕ)) → Names name w [] rest → (n : ℕ) → IsNumberIn 1 most w n → ⊥
  none w rest (inl e) n m = cc e
  none w rest (inr e) n m = cc e
has_named name most (w ∷ us) = elim (has_rest name w) [
  | inl h ↦ with_more name most w h.0 us h.1
  | inr none ↦ no_value name most (w ∷ us) (λ u rest k n m. no_names name w us (λ e. none [] (e ∙ sym (append-nil name))) (λ x f. none (61 ∷ x) f) u rest k)
]

certs_begin : (words : List (List ℕ)) → ((rest : List (List ℕ)) × (words ≡ codes "--certs" ∷ rest)) ⊎ ((rest : List (List ℕ)) → words ≡ codes "--certs" ∷ rest → ⊥)
certs_begin [] = inr (λ rest e. cc e)
certs_begin (w ∷ us) = elim (same_word w (codes "--certs")) [
  | inl same ↦ inl (us, λ i. same i ∷ us)
  | inr other ↦ inr (λ rest e. other (first_word w (codes "--certs") us rest e).0)
]

abbrev HasSetting : List (List ℕ) → Type 0
HasSetting words = ((s : Setting) × (rest : List (List ℕ)) × Begins s words rest) ⊎ ((s : Setting) (rest : List (List ℕ)) → Begins s words rest → ⊥)

none_begins : (words : List (List ℕ)) → ((n : ℕ) (rest : List (List ℕ)) → NamesNumber (codes "--workers") WORKERS n words rest → ⊥) → ((n : ℕ) (rest : List (List ℕ)) → NamesNumber (codes "--table") TABLE n words rest → ⊥)
    → ((n : ℕ) (rest : List (List ℕ)) → NamesNumber (codes "--steps") STEPS n words rest → ⊥) → ((rest : List (List ℕ)) → words ≡ codes "--certs" ∷ rest → ⊥) → (s : Setting) (rest : List (List ℕ)) → Begins s words rest → ⊥
none_begins words w t s c (Workers n) rest h = w n rest h
none_begins words w t s c (Table n) rest h = t n rest h
none_begins words w t s c (Steps n) rest h = s n rest h
none_begins words w t s c Certs rest h = c rest h

has_setting : (words : List (List ℕ)) → HasSetting words
has_setting words = elim (has_named (codes "--workers") WORKERS words) [
  | inl h ↦ inl (Workers h.0, h.1, h.2)
  | inr w ↦ elim (has_named (codes "--table") TABLE words) [
    | inl h ↦ inl (Table h.0, h.1, h.2)
    | inr t ↦ elim (has_named (codes "--steps") STEPS words) [
      | inl h ↦ inl (Steps h.0, h.1, h.2)
      | inr s ↦ elim (certs_begin words) [ inl h ↦ inl (Certs, h.0, h.1) | inr c ↦ inr (none_begins words w t s c) ]
    ]
  ]
]

-- ---- lists of settings

abbrev HasSettings : List (List ℕ) → Type 0
HasSettings words = ((ss : List Setting) × AreSettings ss words) ⊎ ((ss : List Setting) → AreSettings ss words → ⊥)

no_first : (w : List ℕ) (us : List (List ℕ)) → ((s : Setting) (rest : List (List ℕ)) → Begins s (w ∷ us) rest → ⊥) → (ss : List Setting) → AreSettings ss (w ∷ us) → ⊥
no_first w us none [] are = cc are
no_first w us none (s ∷ ss) are = none s are.0 are.1

no_more : (w : List ℕ) (us : List (List ℕ)) (s : Setting) (rest : List (List ℕ)) → Begins s (w ∷ us) rest → ((ss : List Setting) → AreSettings ss rest → ⊥) → (ss : List Setting) → AreSettings ss (w ∷ us) → ⊥
no_more w us s rest begins none [] are = cc are
no_more w us s rest begins none (t ∷ ss) are = none ss (are_by ss are.0 rest (one_begin t s (w ∷ us) are.0 rest are.1 begins).1 are.2)

has_settings : (n : ℕ) (words : List (List ℕ)) → length words ≤ n → HasSettings words
has_settings n [] few = inl ([], refl)
has_settings zero (w ∷ us) few = absurd (omega (arith, few))
has_settings (suc n) (w ∷ us) few = elim (has_setting (w ∷ us)) [
  | inr none ↦ inr (no_first w us none)
  | inl h ↦ (
      let shorter = begins_shorter h.0 (w ∷ us) h.1 h.2 in
      elim (has_settings n h.1 (omega (arith, shorter, few))) [
        | inl more ↦ inl (h.0 ∷ more.0, (h.1, h.2, more.1))
        | inr none ↦ inr (no_more w us h.0 h.1 h.2 none)
      ])
]

-- ---- what options are given

has_given : {A : Type 0} (values : List A) (default : A) → ((a : A) × IsGiven values default a) ⊎ ((a : A) → IsGiven values default a → ⊥)
has_given [] default = inl (default, inl (refl, refl))
has_given (a ∷ []) default = inl (a, inr refl)
has_given {A} (a ∷ b ∷ values) default = inr none where
  none : (c : A) → IsGiven (a ∷ b ∷ values) default c → ⊥
  none c (inl p) = cc (p.0)
  none c (inr p) = cc p

has_none : {A : Type 0} (values : List A) → (values ≡ []) ⊎ (values ≡ [] → ⊥)
has_none [] = inl refl
has_none (a ∷ values) = inr (λ e. cc e)

given_by : {A : Type 0} (gives : Setting → List A) (ss ts : List Setting) (default a : A) → ss ≡ ts → IsGiven (given gives ss) default a → IsGiven (given gives ts) default a
given_by gives ss ts default a e h = subst (λ us. IsGiven (given gives us) default a) e h

abbrev HasFan : List (List ℕ) → Type 0
HasFan words = ((w t s : ℕ) × (certs : Bool) × IsFan words w t s certs) ⊎ ((w t s : ℕ) → (certs : Bool) → IsFan words w t s certs → ⊥)

fan_by : (words : List (List ℕ)) (ss : List Setting) → AreSettings ss words → HasFan words
fan_by words ss are = elim (has_given (given workers_of ss) WORKERS_UNSET) [
  | inr none ↦ inr (λ w t s c h. none w (given_by workers_of h.settings ss WORKERS_UNSET w (same h.settings h.are) h.gives_workers))
  | inl w ↦ elim (has_given (given table_of ss) TABLE_UNSET) [
    | inr none ↦ inr (λ v t s c h. none t (given_by table_of h.settings ss TABLE_UNSET t (same h.settings h.are) h.gives_table))
    | inl t ↦ elim (has_given (given steps_of ss) STEPS_UNSET) [
      | inr none ↦ inr (λ v u s c h. none s (given_by steps_of h.settings ss STEPS_UNSET s (same h.settings h.are) h.gives_steps))
      | inl s ↦ elim (has_given (given certs_of ss) false) [
        | inr none ↦ inr (λ v u r c h. none c (given_by certs_of h.settings ss false c (same h.settings h.are) h.gives_certs))
        | inl c ↦ inl (w.0, t.0, s.0, c.0, record { settings = ss; are = are; gives_workers = w.1; gives_table = t.1; gives_steps = s.1; gives_certs = c.1 })
      ]
    ]
  ]
] where
  same : (ts : List Setting) → AreSettings ts words → ts ≡ ss
  same ts h = one_list ts ss words h are

has_fan : (words : List (List ℕ)) → HasFan words
has_fan words = elim (has_settings (length words) words (omega arith)) [
  | inl h ↦ fan_by words h.0 h.1
  | inr none ↦ inr (λ w t s c h. none h.settings h.are)
]

abbrev HasFaces : List (List ℕ) → Type 0
HasFaces words = ((s : ℕ) × IsFaces words s) ⊎ ((s : ℕ) → IsFaces words s → ⊥)

faces_by : (words : List (List ℕ)) (ss : List Setting) → AreSettings ss words → HasFaces words
faces_by words ss are = elim (has_none (given workers_of ss)) [
  | inr some ↦ inr (λ s h. some (sym (ap (given workers_of) (same h.settings h.are)) ∙ h.no_workers))
  | inl w ↦ elim (has_none (given table_of ss)) [
    | inr some ↦ inr (λ s h. some (sym (ap (given table_of) (same h.settings h.are)) ∙ h.no_table))
    | inl t ↦ elim (has_none (given certs_of ss)) [
      | inr some ↦ inr (λ s h. some (sym (ap (given certs_of) (same h.settings h.are)) ∙ h.no_certs))
      | inl c ↦ elim (has_given (given steps_of ss) STEPS_UNSET) [
        | inr none ↦ inr (λ s h. none s (given_by steps_of h.settings ss STEPS_UNSET s (same h.settings h.are) h.gives_steps))
        | inl s ↦ inl (s.0, record { settings = ss; are = are; no_workers = w; no_table = t; no_certs = c; gives_steps = s.1 })
      ]
    ]
  ]
] where
  same : (ts : List Setting) → AreSettings ts words → ts ≡ ss
  same ts h = one_list ts ss words h are

has_faces : (words : List (List ℕ)) → HasFaces words
has_faces words = elim (has_settings (length words) words (omega arith)) [
  | inl h ↦ faces_by words h.0 h.1
  | inr none ↦ inr (λ s h. none h.settings h.are)
]

abbrev HasQuestion : List (List ℕ) → Type 0
HasQuestion words = ((t s : ℕ) × IsQuestion words t s) ⊎ ((t s : ℕ) → IsQuestion words t s → ⊥)

question_by : (words : List (List ℕ)) (ss : List Setting) → AreSettings ss words → HasQuestion words
question_by words ss are = elim (has_none (given workers_of ss)) [
  | inr some ↦ inr (λ t s h. some (sym (ap (given workers_of) (same h.settings h.are)) ∙ h.no_workers))
  | inl w ↦ elim (has_none (given certs_of ss)) [
    | inr some ↦ inr (λ t s h. some (sym (ap (given certs_of) (same h.settings h.are)) ∙ h.no_certs))
    | inl c ↦ elim (has_given (given table_of ss) TABLE_UNSET) [
      | inr none ↦ inr (λ t s h. none t (given_by table_of h.settings ss TABLE_UNSET t (same h.settings h.are) h.gives_table))
      | inl t ↦ elim (has_given (given steps_of ss) STEPS_UNSET) [
        | inr none ↦ inr (λ u s h. none s (given_by steps_of h.settings ss STEPS_UNSET s (same h.settings h.are) h.gives_steps))
        | inl s ↦ inl (t.0, s.0, record { settings = ss; are = are; no_workers = w; no_certs = c; gives_table = t.1; gives_steps = s.1 })
      ]
    ]
  ]
] where
  same : (ts : List Setting) → AreSettings ts words → ts ≡ ss
  same ts h = one_list ts ss words h are

has_question : (words : List (List ℕ)) → HasQuestion words
has_question words = elim (has_settings (length words) words (omega arith)) [
  | inl h ↦ question_by words h.0 h.1
  | inr none ↦ inr (λ t s h. none h.settings h.are)
]

-- ---- samples

abbrev HasSample : List (List ℕ) → Type 0
HasSample words = ((s : Sample) × NamesSample words s) ⊎ ((s : Sample) → NamesSample words s → ⊥)

sizes : (us vs : List (List ℕ)) → us ≡ vs → length us ≡ length vs
sizes us vs e = ap (λ (ws : List (List ℕ)). length ws) e

-- neither two words nor three
no_sample : (words : List (List ℕ)) → (length words ≡ 2 → ⊥) → (length words ≡ 3 → ⊥) → (s : Sample) → NamesSample words s → ⊥
no_sample words two three (Points n seed) h = three (sizes _ _ h.2)
no_sample words two three (Plucker n) h = two (sizes _ _ h.1)

three_words : (a b c d e f : List ℕ) → a ∷ b ∷ c ∷ [] ≡ d ∷ e ∷ f ∷ [] → (a ≡ d) × (b ≡ e) × (c ≡ f)
three_words a b c d e f h = (cc, cc, cc)

seed_known : (word : List ℕ) → ((n : ℕ) × IsNumberWord word n) ⊎ ((n : ℕ) → IsNumberWord word n → ⊥)
seed_known word = by (natural word) refl where
  by : (o : Option ℕ) → natural word ≡ o → ((n : ℕ) × IsNumberWord word n) ⊎ ((n : ℕ) → IsNumberWord word n → ⊥)
  by None e = inr (λ n h. let f : None ≡ Some n = sym e ∙ h.value in cc f)
  by (Some m) e = elim (cases_lt 9 (length word)) [
    | inl long ↦ inr (λ n h. let short = h.short in omega (arith, long, short))
    | inr short ↦ inl (m, record { short = short; value = e })
  ]

two_known : (a b : List ℕ) → HasSample (a ∷ b ∷ [])
two_known a b = elim (same_word a (codes "plucker")) [
  | inr other ↦ inr (none (λ w e n m. other (first_two a b (codes "plucker") w [] [] e).0))
  | inl same ↦ elim (has_number 4 5 b) [
    | inl h ↦ inl (Plucker h.0, (b, (λ i. same i ∷ b ∷ []), h.1))
    | inr never ↦ inr (none (λ w e n m. never n (subst (λ u. IsNumberIn 4 5 u n) (sym (first_two a b (codes "plucker") w [] [] e).1) m)))
  ]
] where
  none : ((w : List ℕ) → a ∷ b ∷ [] ≡ codes "plucker" ∷ w ∷ [] → (n : ℕ) → IsNumberIn 4 5 w n → ⊥) → (s : Sample) → NamesSample (a ∷ b ∷ []) s → ⊥
  none never (Points n seed) h = let e = sizes _ _ h.2 in omega (arith, e)
  none never (Plucker n) h = never h.0 h.1 n h.2

three_known : (a b c : List ℕ) → HasSample (a ∷ b ∷ c ∷ [])
three_known a b c = elim (same_word a (codes "points")) [
  | inr other ↦ inr (none (λ u v e n m k l. other (three_words a b c (codes "points") u v e).0))
  | inl same ↦ elim (has_number 3 16 b) [
    | inr never ↦ inr (none (λ u v e n m k l. never n (subst (λ x. IsNumberIn 3 16 x n) (sym (three_words a b c (codes "points") u v e).1) m)))
    | inl h ↦ elim (seed_known c) [
      | inl g ↦ inl (Points h.0 g.0, (b, c, (λ i. same i ∷ b ∷ c ∷ []), h.1, g.1))
      | inr never ↦ inr (none (λ u v e n m k l. never k (subst (λ x. IsNumberWord x k) (sym (three_words a b c (codes "points") u v e).2) l)))
    ]
  ]
] where
  none : ((u v : List ℕ) → a ∷ b ∷ c ∷ [] ≡ codes "points" ∷ u ∷ v ∷ [] → (n : ℕ) → IsNumberIn 3 16 u n → (k : ℕ) → IsNumberWord v k → ⊥) → (s : Sample) → NamesSample (a ∷ b ∷ c ∷ []) s → ⊥
  none never (Points n seed) h = never h.0 h.1 h.2 n h.3 seed h.4
  none never (Plucker n) h = let e = sizes _ _ h.1 in omega (arith, e)

has_sample : (words : List (List ℕ)) → HasSample words
has_sample [] = inr (no_sample [] (λ e. omega (arith, e)) (λ e. omega (arith, e)))
has_sample (a ∷ []) = inr (no_sample (a ∷ []) (λ e. omega (arith, e)) (λ e. omega (arith, e)))
has_sample (a ∷ b ∷ []) = two_known a b
has_sample (a ∷ b ∷ c ∷ []) = three_known a b c
has_sample (a ∷ b ∷ c ∷ d ∷ words) = inr (no_sample (a ∷ b ∷ c ∷ d ∷ words) (λ e. omega (arith, e)) (λ e. omega (arith, e)))

abbrev EndsWithRun : List (List ℕ) → Type 0
EndsWithRun words = ((front : List (List ℕ)) × (words ≡ front ++ codes "--run" ∷ [])) ⊎ ((front : List (List ℕ)) → words ≡ front ++ codes "--run" ∷ [] → ⊥)

ends_with_run : (words : List (List ℕ)) → EndsWithRun words
ends_with_run [] = inr none where
  none : (front : List (List ℕ)) → [] ≡ front ++ codes "--run" ∷ [] → ⊥
  none [] e = cc e
  none (u ∷ front) e = cc e
ends_with_run (w ∷ []) = elim (same_word w (codes "--run")) [
  | inl same ↦ inl ([], λ i. same i ∷ [])
  | inr other ↦ inr (none other)
] where
  none : (w ≡ codes "--run" → ⊥) → (front : List (List ℕ)) → w ∷ [] ≡ front ++ codes "--run" ∷ [] → ⊥
  none other [] e = other (first_word w (codes "--run") [] [] e).0
  none other (u ∷ []) e = let h = sizes _ _ e in omega (arith, h)
  none other (u ∷ v ∷ front) e = let h = sizes _ _ e in omega (arith, h)
ends_with_run (w ∷ x ∷ words) = elim (ends_with_run (x ∷ words)) [
  | inl h ↦ inl (w ∷ h.0, λ i. w ∷ h.1 i)
  | inr never ↦ inr (none never)
] where
  none : ((front : List (List ℕ)) → x ∷ words ≡ front ++ codes "--run" ∷ [] → ⊥) → (front : List (List ℕ)) → w ∷ x ∷ words ≡ front ++ codes "--run" ∷ [] → ⊥
  none never [] e = let h = sizes _ _ e in omega (arith, h)
  none never (u ∷ front) e = never front (first_word w u (x ∷ words) (front ++ codes "--run" ∷ []) e).1

abbrev HasMake : List (List ℕ) → Type 0
HasMake words = ((s : Sample) × (run : Bool) × IsMake words s run) ⊎ ((s : Sample) → (run : Bool) → IsMake words s run → ⊥)

has_make : (words : List (List ℕ)) → HasMake words
has_make words = elim (ends_with_run words) [
  | inl h ↦ elim (has_sample h.0) [
    | inl s ↦ inl (s.0, true, make_run words h.0 s.0 h.1 s.1)
    | inr none ↦ inr (no_run words h.0 h.1 none)
  ]
  | inr last ↦ elim (has_sample words) [
    | inl s ↦ inl (s.0, false, make_plain words s.0 s.1)
    | inr none ↦ inr (no_plain words last none)
  ]
]

-- ---- commands

-- what is known of the words after a first word
abbrev Known : (words : List (List ℕ)) → List ℕ → Type 0
Known words word = ((c : Command) × IsCommand words c) ⊎ ((c : Command) → command_word c ≡ word → IsCommand words c → ⊥)

-- after this word, it is one of its commands or none
with_word : (word : List ℕ) (words : List (List ℕ)) → ((rest : List (List ℕ)) → words ≡ word ∷ rest → Known words word) → Known words word
with_word word [] known = inr (λ c same h. let e = h.begin in cc e)
with_word word (w ∷ rest) known = elim (same_word w word) [
  | inl same ↦ known rest (λ i. same i ∷ rest)
  | inr other ↦ inr (λ c same h. other ((first_word w (command_word c) rest h.rest h.begin).0 ∙ same))
]

-- a decision that excludes all commands
all_none : (words : List (List ℕ)) (word : List ℕ) → ((c : Command) → IsCommand words c → ⊥) → Known words word
all_none words word none = inr (λ c same h. none c h)

fan_known : (words rest : List (List ℕ)) → words ≡ codes "fan" ∷ rest → Known words (codes "fan")
fan_known words rest e = elim (has_fan rest) [
  | inl h ↦ inl (Fan h.0 h.1 h.2 h.3, is_command (Fan h.0 h.1 h.2 h.3) words rest e h.4)
  | inr none ↦ all_none words (codes "fan") (no_fan words rest e none)
]

faces_known : (words rest : List (List ℕ)) → words ≡ codes "faces" ∷ rest → Known words (codes "faces")
faces_known words rest e = elim (has_faces rest) [
  | inl h ↦ inl (Faces h.0, is_command (Faces h.0) words rest e h.1)
  | inr none ↦ all_none words (codes "faces") (no_faces words rest e none)
]

make_known : (words rest : List (List ℕ)) → words ≡ codes "make" ∷ rest → Known words (codes "make")
make_known words rest e = elim (has_make rest) [
  | inl h ↦ inl (Make h.0 h.1, is_command (Make h.0 h.1) words rest e h.2)
  | inr none ↦ all_none words (codes "make") (no_make words rest e none)
]

cones_known : (words rest : List (List ℕ)) → words ≡ codes "cones" ∷ rest → Known words (codes "cones")
cones_known words rest e = elim (has_question rest) [
  | inl h ↦ inl (AllCones h.0 h.1, is_command (AllCones h.0 h.1) words rest e h.2)
  | inr none ↦ all_none words (codes "cones") (no_cones words rest e none)
]

locate_known : (words rest : List (List ℕ)) → words ≡ codes "locate" ∷ rest → Known words (codes "locate")
locate_known words rest e = elim (has_question rest) [
  | inl h ↦ inl (Locate h.0 h.1, is_command (Locate h.0 h.1) words rest e h.2)
  | inr none ↦ all_none words (codes "locate") (no_locate words rest e none)
]

bunch_known : (words rest : List (List ℕ)) → words ≡ codes "bunch" ∷ rest → Known words (codes "bunch")
bunch_known words rest e = elim (has_question rest) [
  | inl h ↦ inl (Bunch h.0 h.1, is_command (Bunch h.0 h.1) words rest e h.2)
  | inr none ↦ all_none words (codes "bunch") (no_bunch words rest e none)
]

pub command_or_none : CommandOrNone
command_or_none words = elim (with_word (codes "fan") words (fan_known words)) [
  | inl h ↦ inl h
  | inr fan ↦ elim (with_word (codes "faces") words (faces_known words)) [
    | inl h ↦ inl h
    | inr faces ↦ elim (with_word (codes "make") words (make_known words)) [
      | inl h ↦ inl h
      | inr make ↦ elim (with_word (codes "cones") words (cones_known words)) [
        | inl h ↦ inl h
        | inr cones ↦ elim (with_word (codes "locate") words (locate_known words)) [
          | inl h ↦ inl h
          | inr locate ↦ elim (with_word (codes "bunch") words (bunch_known words)) [
            | inl h ↦ inl h
            | inr bunch ↦ inr (λ c h. by fan faces make cones locate bunch c h)
          ]
        ]
      ]
    ]
  ]
] where
  None_of : List ℕ → Type 0
  None_of word = (c : Command) → command_word c ≡ word → IsCommand words c → ⊥

  by : None_of (codes "fan") → None_of (codes "faces") → None_of (codes "make") → None_of (codes "cones") → None_of (codes "locate") → None_of (codes "bunch") → (c : Command) → IsCommand words c → ⊥
  by fan faces make cones locate bunch (Fan w t s certs) h = fan (Fan w t s certs) refl h
  by fan faces make cones locate bunch (Faces n) h = faces (Faces n) refl h
  by fan faces make cones locate bunch (Make s run) h = make (Make s run) refl h
  by fan faces make cones locate bunch (AllCones t s) h = cones (AllCones t s) refl h
  by fan faces make cones locate bunch (Locate t s) h = locate (Locate t s) refl h
  by fan faces make cones locate bunch (Bunch t s) h = bunch (Bunch t s) refl h
