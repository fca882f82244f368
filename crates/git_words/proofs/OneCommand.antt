-- Words spell one command at most, whose numbers are within the limits.
use Rattle.std.proofs.Common.{◌≡◌, ◌∙◌, ℕ, ◌+◌, ◌*◌, ◌≤◌, List, [], ◌∷◌, get_or, Bool, Option, Some, None, inl, inr, refl, sym, ap, subst, arith}
use Rattle.std.specs.Prelude.{codes, IfSome}
use Rattle.git_words.specs.declared.commands.Sample.{Sample}
use Rattle.git_words.specs.declared.commands.Sample.TheVariants.{Points, Plucker}
use Rattle.git_words.specs.declared.commands.Command.{Command}
use Rattle.git_words.specs.declared.commands.Command.TheVariants.{Fan, Faces, Make, AllCones, Locate, Bunch}
use Rattle.git_words.specs.declared.commands.TheConstants.{WORKERS, TABLE, STEPS, WORKERS_UNSET, TABLE_UNSET, STEPS_UNSET}
use Rattle.git_words.specs.declared.settings.Setting.{Setting}
use Rattle.git_words.specs.declared.settings.Setting.TheVariants.{Workers, Table, Steps, Certs}
use Rattle.git_words.specs.Words.{AreSettings, IsGiven, IsFan, IsFaces, IsQuestion, IsMake, IsCommand, IsCommandAfter, NamesSample, command_word, given, workers_of, table_of, steps_of}
use Rattle.git_words.specs.Laws.{OneCommand, CommandsAreInRange, IsInRange, IsSampleInRange}
use Rattle.git_words.proofs.Numbers.{few_digits}
use Rattle.git_words.proofs.Sets.{one_fan, one_faces, one_question}
use Rattle.git_words.proofs.Samples.{one_make}

first : (a b : List ℕ) (us vs : List (List ℕ)) → a ∷ us ≡ b ∷ vs → (a ≡ b) × (us ≡ vs)
first a b us vs e = (cc, cc)

-- the first and the third letter tell the commands apart
abbrev mark : List ℕ → ℕ
mark word = get_or word 0 0 * 256 + get_or word 2 0

marks : (a b : List ℕ) → a ≡ b → mark a ≡ mark b
marks a b e = ap mark e

after_by : (c : Command) (us vs : List (List ℕ)) → us ≡ vs → IsCommandAfter c us → IsCommandAfter c vs
after_by c us vs e h = subst (IsCommandAfter c) e h

-- ---- a command whose first word is known

fan_only : (d : Command) (rest : List (List ℕ)) → command_word d ≡ codes "fan" → IsCommandAfter d rest → (w t s : ℕ) × (certs : Bool) × (d ≡ Fan w t s certs) × IsFan rest w t s certs
fan_only (Fan w t s certs) rest same h = (w, t, s, certs, refl, h)
fan_only (Faces n) rest same h = let e = marks _ _ same in absurd (omega (arith, e))
fan_only (Make s run) rest same h = let e = marks _ _ same in absurd (omega (arith, e))
fan_only (AllCones t s) rest same h = let e = marks _ _ same in absurd (omega (arith, e))
fan_only (Locate t s) rest same h = let e = marks _ _ same in absurd (omega (arith, e))
fan_only (Bunch t s) rest same h = let e = marks _ _ same in absurd (omega (arith, e))

faces_only : (d : Command) (rest : List (List ℕ)) → command_word d ≡ codes "faces" → IsCommandAfter d rest → (n : ℕ) × (d ≡ Faces n) × IsFaces rest n
faces_only (Fan w t s certs) rest same h = let e = marks _ _ same in absurd (omega (arith, e))
faces_only (Faces n) rest same h = (n, refl, h)
faces_only (Make s run) rest same h = let e = marks _ _ same in absurd (omega (arith, e))
faces_only (AllCones t s) rest same h = let e = marks _ _ same in absurd (omega (arith, e))
faces_only (Locate t s) rest same h = let e = marks _ _ same in absurd (omega (arith, e))
faces_only (Bunch t s) rest same h = let e = marks _ _ same in absurd (omega (arith, e))

make_only : (d : Command) (rest : List (List ℕ)) → command_word d ≡ codes "make" → IsCommandAfter d rest → (s : Sample) × (run : Bool) × (d ≡ Make s run) × IsMake rest s run
make_only (Fan w t s certs) rest same h = let e = marks _ _ same in absurd (omega (arith, e))
make_only (Faces n) rest same h = let e = marks _ _ same in absurd (omega (arith, e))
make_only (Make s run) rest same h = (s, run, refl, h)
make_only (AllCones t s) rest same h = let e = marks _ _ same in absurd (omega (arith, e))
make_only (Locate t s) rest same h = let e = marks _ _ same in absurd (omega (arith, e))
make_only (Bunch t s) rest same h = let e = marks _ _ same in absurd (omega (arith, e))

cones_only : (d : Command) (rest : List (List ℕ)) → command_word d ≡ codes "cones" → IsCommandAfter d rest → (t s : ℕ) × (d ≡ AllCones t s) × IsQuestion rest t s
cones_only (Fan w t s certs) rest same h = let e = marks _ _ same in absurd (omega (arith, e))
cones_only (Faces n) rest same h = let e = marks _ _ same in absurd (omega (arith, e))
cones_only (Make s run) rest same h = let e = marks _ _ same in absurd (omega (arith, e))
cones_only (AllCones t s) rest same h = (t, s, refl, h)
cones_only (Locate t s) rest same h = let e = marks _ _ same in absurd (omega (arith, e))
cones_only (Bunch t s) rest same h = let e = marks _ _ same in absurd (omega (arith, e))

locate_only : (d : Command) (rest : List (List ℕ)) → command_word d ≡ codes "locate" → IsCommandAfter d rest → (t s : ℕ) × (d ≡ Locate t s) × IsQuestion rest t s
locate_only (Fan w t s certs) rest same h = let e = marks _ _ same in absurd (omega (arith, e))
locate_only (Faces n) rest same h = let e = marks _ _ same in absurd (omega (arith, e))
locate_only (Make s run) rest same h = let e = marks _ _ same in absurd (omega (arith, e))
locate_only (AllCones t s) rest same h = let e = marks _ _ same in absurd (omega (arith, e))
locate_only (Locate t s) rest same h = (t, s, refl, h)
locate_only (Bunch t s) rest same h = let e = marks _ _ same in absurd (omega (arith, e))

bunch_only : (d : Command) (rest : List (List ℕ)) → command_word d ≡ codes "bunch" → IsCommandAfter d rest → (t s : ℕ) × (d ≡ Bunch t s) × IsQuestion rest t s
bunch_only (Fan w t s certs) rest same h = let e = marks _ _ same in absurd (omega (arith, e))
bunch_only (Faces n) rest same h = let e = marks _ _ same in absurd (omega (arith, e))
bunch_only (Make s run) rest same h = let e = marks _ _ same in absurd (omega (arith, e))
bunch_only (AllCones t s) rest same h = let e = marks _ _ same in absurd (omega (arith, e))
bunch_only (Locate t s) rest same h = let e = marks _ _ same in absurd (omega (arith, e))
bunch_only (Bunch t s) rest same h = (t, s, refl, h)

-- two commands with one first word and one rest
one_after : (c d : Command) (rest : List (List ℕ)) → command_word c ≡ command_word d → IsCommandAfter c rest → IsCommandAfter d rest → c ≡ d
one_after (Fan a b c p) d rest same h k =
    let o = fan_only d rest (sym same) k in let all = one_fan rest a b c o.0 o.1 o.2 p o.3 h o.5 in (λ i. Fan (all.0 i) (all.1 i) (all.2 i) (all.3 i)) ∙ sym o.4
one_after (Faces m) d rest same h k = let o = faces_only d rest (sym same) k in ap Faces (one_faces rest m o.0 h o.2) ∙ sym o.1
one_after (Make s p) d rest same h k = let o = make_only d rest (sym same) k in let all = one_make rest s o.0 p o.1 h o.3 in (λ i. Make (all.0 i) (all.1 i)) ∙ sym o.2
one_after (AllCones a b) d rest same h k = let o = cones_only d rest (sym same) k in let all = one_question rest a b o.0 o.1 h o.3 in (λ i. AllCones (all.0 i) (all.1 i)) ∙ sym o.2
one_after (Locate a b) d rest same h k = let o = locate_only d rest (sym same) k in let all = one_question rest a b o.0 o.1 h o.3 in (λ i. Locate (all.0 i) (all.1 i)) ∙ sym o.2
one_after (Bunch a b) d rest same h k = let o = bunch_only d rest (sym same) k in let all = one_question rest a b o.0 o.1 h o.3 in (λ i. Bunch (all.0 i) (all.1 i)) ∙ sym o.2

pub one_command : OneCommand
one_command words c d h k =
    let same = first (command_word c) (command_word d) h.rest k.rest (sym h.begin ∙ k.begin) in
    one_after c d k.rest same.0 (after_by c h.rest k.rest same.1 h.after) k.after

-- ---- what the reader finds

pub is_command : (c : Command) (words rest : List (List ℕ)) → words ≡ command_word c ∷ rest → IsCommandAfter c rest → IsCommand words c
is_command c words rest e h = record { rest = rest; begin = e; after = h }

-- a first word whose rest spells none of its commands
none_after : (word : List ℕ) (rest : List (List ℕ)) → ((c : Command) → command_word c ≡ word → IsCommandAfter c rest → ⊥) → (words : List (List ℕ)) → words ≡ word ∷ rest → (c : Command) → IsCommand words c → ⊥
none_after word rest none words e c h =
    let same = first (command_word c) word h.rest rest (sym h.begin ∙ e) in none c same.0 (after_by c h.rest rest same.1 h.after)

pub no_fan : (words rest : List (List ℕ)) → words ≡ codes "fan" ∷ rest → ((w t s : ℕ) → (certs : Bool) → IsFan rest w t s certs → ⊥) → (c : Command) → IsCommand words c → ⊥
no_fan words rest e none c h = none_after (codes "fan") rest (λ d same k. let o = fan_only d rest same k in none o.0 o.1 o.2 o.3 o.5) words e c h

pub no_faces : (words rest : List (List ℕ)) → words ≡ codes "faces" ∷ rest → ((n : ℕ) → IsFaces rest n → ⊥) → (c : Command) → IsCommand words c → ⊥
no_faces words rest e none c h = none_after (codes "faces") rest (λ d same k. let o = faces_only d rest same k in none o.0 o.2) words e c h

pub no_make : (words rest : List (List ℕ)) → words ≡ codes "make" ∷ rest → ((s : Sample) → (run : Bool) → IsMake rest s run → ⊥) → (c : Command) → IsCommand words c → ⊥
no_make words rest e none c h = none_after (codes "make") rest (λ d same k. let o = make_only d rest same k in none o.0 o.1 o.3) words e c h

pub no_cones : (words rest : List (List ℕ)) → words ≡ codes "cones" ∷ rest → ((t s : ℕ) → IsQuestion rest t s → ⊥) → (c : Command) → IsCommand words c → ⊥
no_cones words rest e none c h = none_after (codes "cones") rest (λ d same k. let o = cones_only d rest same k in none o.0 o.1 o.3) words e c h

pub no_locate : (words rest : List (List ℕ)) → words ≡ codes "locate" ∷ rest → ((t s : ℕ) → IsQuestion rest t s → ⊥) → (c : Command) → IsCommand words c → ⊥
no_locate words rest e none c h = none_after (codes "locate") rest (λ d same k. let o = locate_only d rest same k in none o.0 o.1 o.3) words e c h

pub no_bunch : (words rest : List (List ℕ)) → words ≡ codes "bunch" ∷ rest → ((t s : ℕ) → IsQuestion rest t s → ⊥) → (c : Command) → IsCommand words c → ⊥
no_bunch words rest e none c h = none_after (codes "bunch") rest (λ d same k. let o = bunch_only d rest same k in none o.0 o.1 o.3) words e c h

pub fan_found : (words rest : List (List ℕ)) → words ≡ codes "fan" ∷ rest → (r : Option Command) → IfSome r (λ c. (w t s : ℕ) × (certs : Bool) × (c ≡ Fan w t s certs) × IsFan rest w t s certs) → IfSome r (λ c. IsCommand words c)
fan_found words rest e None h = h
fan_found words rest e (Some c) h = subst (IsCommand words) (sym h.4) (is_command (Fan h.0 h.1 h.2 h.3) words rest e h.5)

pub faces_found : (words rest : List (List ℕ)) → words ≡ codes "faces" ∷ rest → (r : Option Command) → IfSome r (λ c. (s : ℕ) × (c ≡ Faces s) × IsFaces rest s) → IfSome r (λ c. IsCommand words c)
faces_found words rest e None h = h
faces_found words rest e (Some c) h = subst (IsCommand words) (sym h.1) (is_command (Faces h.0) words rest e h.2)

pub cones_found : (words rest : List (List ℕ)) → words ≡ codes "cones" ∷ rest → (r : Option Command) → IfSome r (λ c. (t s : ℕ) × (c ≡ AllCones t s) × IsQuestion rest t s) → IfSome r (λ c. IsCommand words c)
cones_found words rest e None h = h
cones_found words rest e (Some c) h = subst (IsCommand words) (sym h.2) (is_command (AllCones h.0 h.1) words rest e h.3)

pub locate_found : (words rest : List (List ℕ)) → words ≡ codes "locate" ∷ rest → (r : Option Command) → IfSome r (λ c. (t s : ℕ) × (c ≡ Locate t s) × IsQuestion rest t s) → IfSome r (λ c. IsCommand words c)
locate_found words rest e None h = h
locate_found words rest e (Some c) h = subst (IsCommand words) (sym h.2) (is_command (Locate h.0 h.1) words rest e h.3)

pub bunch_found : (words rest : List (List ℕ)) → words ≡ codes "bunch" ∷ rest → (r : Option Command) → IfSome r (λ c. (t s : ℕ) × (c ≡ Bunch t s) × IsQuestion rest t s) → IfSome r (λ c. IsCommand words c)
bunch_found words rest e None h = h
bunch_found words rest e (Some c) h = subst (IsCommand words) (sym h.2) (is_command (Bunch h.0 h.1) words rest e h.3)

-- ---- the limits

given_in : (most default n : ℕ) (values : List ℕ) → 1 ≤ default → default ≤ most → ((m : ℕ) (more : List ℕ) → values ≡ m ∷ more → (1 ≤ m) × (m ≤ most)) → IsGiven values default n → (1 ≤ n) × (n ≤ most)
given_in most default n values low high all (inl p) = let e = p.1 in (omega (arith, e, low), omega (arith, e, high))
given_in most default n values low high all (inr p) = all n [] p

workers_in : (ss : List Setting) (words : List (List ℕ)) → AreSettings ss words → (m : ℕ) (more : List ℕ) → given workers_of ss ≡ m ∷ more → (1 ≤ m) × (m ≤ WORKERS)
workers_in [] words are m more e = absurd (cc e)
workers_in (Workers n ∷ ss) words are m more e = let same : n ≡ m = cc e in let k = are.1.number in let low = k.enough in let high = k.few in (omega (arith, same, low), omega (arith, same, high))
workers_in (Table n ∷ ss) words are m more e = workers_in ss are.0 are.2 m more e
workers_in (Steps n ∷ ss) words are m more e = workers_in ss are.0 are.2 m more e
workers_in (Certs ∷ ss) words are m more e = workers_in ss are.0 are.2 m more e

table_in : (ss : List Setting) (words : List (List ℕ)) → AreSettings ss words → (m : ℕ) (more : List ℕ) → given table_of ss ≡ m ∷ more → (1 ≤ m) × (m ≤ TABLE)
table_in [] words are m more e = absurd (cc e)
table_in (Workers n ∷ ss) words are m more e = table_in ss are.0 are.2 m more e
table_in (Table n ∷ ss) words are m more e = let same : n ≡ m = cc e in let k = are.1.number in let low = k.enough in let high = k.few in (omega (arith, same, low), omega (arith, same, high))
table_in (Steps n ∷ ss) words are m more e = table_in ss are.0 are.2 m more e
table_in (Certs ∷ ss) words are m more e = table_in ss are.0 are.2 m more e

steps_in : (ss : List Setting) (words : List (List ℕ)) → AreSettings ss words → (m : ℕ) (more : List ℕ) → given steps_of ss ≡ m ∷ more → (1 ≤ m) × (m ≤ STEPS)
steps_in [] words are m more e = absurd (cc e)
steps_in (Workers n ∷ ss) words are m more e = steps_in ss are.0 are.2 m more e
steps_in (Table n ∷ ss) words are m more e = steps_in ss are.0 are.2 m more e
steps_in (Steps n ∷ ss) words are m more e = let same : n ≡ m = cc e in let k = are.1.number in let low = k.enough in let high = k.few in (omega (arith, same, low), omega (arith, same, high))
steps_in (Certs ∷ ss) words are m more e = steps_in ss are.0 are.2 m more e

sample_in : (words : List (List ℕ)) (s : Sample) → NamesSample words s → IsSampleInRange s
sample_in words (Points n seed) h = (h.3.enough, h.3.few, few_digits h.1 seed h.4)
sample_in words (Plucker n) h = (h.2.enough, h.2.few)

question_in : (words : List (List ℕ)) (t s : ℕ) → IsQuestion words t s → (1 ≤ t) × (t ≤ TABLE) × (1 ≤ s) × (s ≤ STEPS)
question_in words t s h =
    let b = given_in TABLE TABLE_UNSET t (given table_of h.settings) (omega arith) (omega arith) (table_in h.settings words h.are) h.gives_table in
    let c = given_in STEPS STEPS_UNSET s (given steps_of h.settings) (omega arith) (omega arith) (steps_in h.settings words h.are) h.gives_steps in
    (b.0, b.1, c.0, c.1)

after_in : (c : Command) (words : List (List ℕ)) → IsCommandAfter c words → IsInRange c
after_in (Fan w t s certs) words h =
    let a = given_in WORKERS WORKERS_UNSET w (given workers_of h.settings) (omega arith) (omega arith) (workers_in h.settings words h.are) h.gives_workers in
    let b = given_in TABLE TABLE_UNSET t (given table_of h.settings) (omega arith) (omega arith) (table_in h.settings words h.are) h.gives_table in
    let c = given_in STEPS STEPS_UNSET s (given steps_of h.settings) (omega arith) (omega arith) (steps_in h.settings words h.are) h.gives_steps in
    (a.0, a.1, b.0, b.1, c.0, c.1)
after_in (Faces s) words h = let c = given_in STEPS STEPS_UNSET s (given steps_of h.settings) (omega arith) (omega arith) (steps_in h.settings words h.are) h.gives_steps in (c.0, c.1)
after_in (Make s run) words h = sample_in h.front s h.names
after_in (AllCones t s) words h = question_in words t s h
after_in (Locate t s) words h = question_in words t s h
after_in (Bunch t s) words h = question_in words t s h

pub commands_are_in_range : CommandsAreInRange
commands_are_in_range words c h = after_in c h.rest h.after
