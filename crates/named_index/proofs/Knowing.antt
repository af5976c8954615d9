-- What is known of named families stays known with each edit.
use Rattle.std.proofs.Common.{◌≡◌, ℕ, ◌+◌, ◌<◌, Bool, true, false, cond, not, ◌&&◌, ◌||◌, ◌==◌, List, [], ◌∷◌, map, filter, Option, Some, None, is_some, nat_eq, arith, refl, sym, ap, subst, ◌∙◌, true≢false}
use Rattle.std.specs.List.{list_any}
use Rattle.std.proofs.lemmas.Bool.{eqb-true}
use Rattle.st_base.specs.Bytes.{same}
use Rattle.st_base.specs.Map.{set_at, value_at}
use Rattle.st_base.proofs.Same.{same_true, same_self}
use Rattle.manifest_edits.specs.Edits.{Named, NamedFamily, Placement, changed_named, edited, has_id, has_log, has_table, has_table_in, is_file, with_table, without_table, with_flushed_number, AddFamily, DropFamily, AddTable, DropTable, Flushed, Last, AddLog, DropLog}
use Rattle.named_index.specs.Knows.{Owner, is_current, is_owned, belongs_to, has_name_in, AreOlder, KnowsNamed}
use Rattle.named_index.proofs.Families.{Named_, or_none, and_false, both_true, one_of, two_of, not_both, nat_self, bool_case, any_as, any_none, any_alike, any_kept, any_gone, any_of_id, any_without, any_set, some_named, some_table, any_put}

-- a function with another value at a key
abbrev pub IsSetAt : {K X : Type 0} → (K → K → Bool) → K → X → (K → X) → (K → X) → Type 0
IsSetAt {K} equal key value old new = (other : K) → new other ≡ cond (equal key other) value (old other)

-- ---- owners

some_is : (o : Option ℕ) → is_some o ≡ true → (n : ℕ) × (o ≡ Some n)
some_is None is = absurd (true≢false (sym is))
some_is (Some n) is = (n, refl)

none_is : (o : Option ℕ) → is_some o ≡ false → o ≡ None
none_is None is = refl
none_is (Some n) is = absurd (true≢false is)

-- what belongs to no family isn't there, and what belongs to one is
there_of : (id : ℕ) (ids : ℕ → Option ℕ) (o : Option Owner) → belongs_to id ids o ≡ true → is_owned ids o ≡ true
there_of id ids None is = absurd (true≢false (sym is))
there_of id ids (Some owner) is =
    ap (λ n. is_current (ids n) owner.1) (eqb-true owner.0 id (one_of (owner.0 == id) (is_current (ids id) owner.1) is))
    ∙ two_of (owner.0 == id) (is_current (ids id) owner.1) is

owner_of : (ids : ℕ → Option ℕ) (o : Option Owner) → is_owned ids o ≡ true → (id : ℕ) × (belongs_to id ids o ≡ true)
owner_of ids None is = absurd (true≢false (sym is))
owner_of ids (Some owner) is = (owner.0, both_true (owner.0 == owner.0) (is_current (ids owner.0) owner.1) (nat_self owner.0) is)

not_there : (ids : ℕ → Option ℕ) (o : Option Owner) → is_owned ids o ≡ false → (id : ℕ) → belongs_to id ids o ≡ false
not_there ids o none id = bool_false (belongs_to id ids o) (λ is. true≢false (sym (there_of id ids o is) ∙ none))
  where
    bool_false : (b : Bool) → (b ≡ true → ⊥) → b ≡ false
    bool_false true never = absurd (never refl)
    bool_false false never = refl

-- something is there where a family has it
module _ (ids : ℕ → Option ℕ) (o : Option Owner) (r : Named_ → Bool) (families : List Named_)
    (tie : (id : ℕ) → list_any (λ family. (family.1.id == id) && r family) families ≡ belongs_to id ids o) where
  pub there_is : list_any r families ≡ is_owned ids o
  there_is = step (is_owned ids o) refl
    where
      step : (b : Bool) → is_owned ids o ≡ b → list_any r families ≡ b
      step true is = any_of_id (λ family. family.1.id) r (owner_of ids o is).0 families (tie (owner_of ids o is).0 ∙ (owner_of ids o is).1)
      step false is = any_without (λ family. family.1.id) r families (λ id. tie id ∙ not_there ids o is id)

-- ---- the numbers of families change

-- a family is dropped
module _ (gone : ℕ) (ids new : ℕ → Option ℕ) (set : IsSetAt nat_eq gone None ids new) where
  dropped_none : new gone ≡ None
  dropped_none = set gone ∙ ap (λ b. cond b None (ids gone)) (nat_self gone)

  belongs_gone : (o : Option Owner) → belongs_to gone new o ≡ false
  belongs_gone None = refl
  belongs_gone (Some owner) = ap (λ here. (owner.0 == gone) && is_current here owner.1) dropped_none ∙ and_false (owner.0 == gone)

  belongs_other : (id : ℕ) (o : Option Owner) → (gone == id) ≡ false → belongs_to id new o ≡ belongs_to id ids o
  belongs_other id None differ = refl
  belongs_other id (Some owner) differ = ap (λ here. (owner.0 == id) && is_current here owner.1) (set id ∙ ap (λ b. cond b None (ids id)) differ)

  -- what families have, without it
  module _ (r : Named_ → Bool) (families : List Named_) (id : ℕ) (o : Option Owner)
      (tie : list_any (λ family. (family.1.id == id) && r family) families ≡ belongs_to id ids o) where
    pub dropped_tie : list_any (λ family. (family.1.id == id) && r family) (filter (λ family. not (family.1.id == gone)) families) ≡ belongs_to id new o
    dropped_tie = step (gone == id) refl
      where
        step : (b : Bool) → (gone == id) ≡ b → list_any (λ family. (family.1.id == id) && r family) (filter (λ family. not (family.1.id == gone)) families) ≡ belongs_to id new o
        step true is =
            let here : gone ≡ id = eqb-true gone id is in
            any_gone (λ family. (family.1.id == id) && r family) (λ family. family.1.id == gone)
            (λ family apart. ap (λ b. b && r family) (ap (λ n. family.1.id == n) (sym here) ∙ apart)) families
            ∙ sym (ap (λ n. belongs_to n new o) (sym here) ∙ belongs_gone o)
        step false is =
            any_kept (λ family. (family.1.id == id) && r family) (λ family. family.1.id == gone)
            (λ family at. ap (λ b. b && r family) (not_both family.1.id gone id at is)) families
            ∙ tie ∙ sym (belongs_other id o is)

-- a family is new
module _ (made next : ℕ) (ids new : ℕ → Option ℕ) (set : IsSetAt nat_eq made (Some next) ids new) (none : ids made ≡ None) where
  belongs_new : (o : Option Owner) → ((owner : Owner) → o ≡ Some owner → owner.1 < next) → belongs_to made new o ≡ belongs_to made ids o
  belongs_new None older = refl
  belongs_new (Some owner) older =
      ap (λ here. (owner.0 == made) && is_current here owner.1) (set made ∙ ap (λ b. cond b (Some next) (ids made)) (nat_self made))
      ∙ ap (λ b. (owner.0 == made) && b) (later (older owner refl))
      ∙ sym (ap (λ here. (owner.0 == made) && is_current here owner.1) none)
    where
      later : owner.1 < next → (next == owner.1) ≡ false
      later less = grind (arith, less)

  belongs_old : (id : ℕ) (o : Option Owner) → (made == id) ≡ false → belongs_to id new o ≡ belongs_to id ids o
  belongs_old id None differ = refl
  belongs_old id (Some owner) differ = ap (λ here. (owner.0 == id) && is_current here owner.1) (set id ∙ ap (λ b. cond b (Some next) (ids id)) differ)

  pub belongs_same : (id : ℕ) (o : Option Owner) → ((owner : Owner) → o ≡ Some owner → owner.1 < next) → belongs_to id new o ≡ belongs_to id ids o
  belongs_same id o older = step (made == id) refl
    where
      step : (b : Bool) → (made == id) ≡ b → belongs_to id new o ≡ belongs_to id ids o
      step true is = subst (λ n. belongs_to n new o ≡ belongs_to n ids o) (eqb-true made id is) (belongs_new o older)
      step false is = belongs_old id o is

  pub belongs_first : (id : ℕ) → belongs_to id new (Some (made, next)) ≡ (made == id)
  belongs_first id = step (made == id) refl
    where
      step : (b : Bool) → (made == id) ≡ b → belongs_to id new (Some (made, next)) ≡ b
      step true is =
          both_true (made == id) (is_current (new id) next) is
          (ap (λ here. is_current here next) (set id ∙ ap (λ b. cond b (Some next) (ids id)) is) ∙ nat_self next)
      step false is = ap (λ b. b && is_current (new id) next) is

-- ---- what each edit asks

module _ (ids : ℕ → Option ℕ) (names : List ℕ → Option Owner) (tables : ℕ → Option Owner) (logs : ℕ → Bool) (next : ℕ) (named : Named)
    (knows : KnowsNamed ids names tables logs next named) where
  -- a name is taken
  pub name_taken : (name : List ℕ) → is_some (value_at named.families name) ≡ is_owned ids (names name)
  name_taken name = some_named named.families name
      ∙ there_is ids (names name) (λ family. same family.0 name) named.families (λ id. knows.has_names id name)

  -- a file is taken by a table
  pub file_taken : (file : ℕ) → has_table named file ≡ is_owned ids (tables file)
  file_taken file = some_table file named.families
      ∙ there_is ids (tables file) (λ family. list_any (is_file file) family.1.tables) named.families (λ id. knows.has_tables id file)

  -- ---- what is known after each

  -- a family is dropped
  pub knows_drop_family : (gone : ℕ) (new : ℕ → Option ℕ) → IsSetAt nat_eq gone None ids new → KnowsNamed new names tables logs next (edited named (DropFamily gone))
  knows_drop_family gone new set = record {
    has_ids = ids_after;
    has_names = λ id name. dropped_tie gone ids new set (λ family. same family.0 name) named.families id (names name) (knows.has_names id name);
    has_tables = λ id file. dropped_tie gone ids new set (λ family. list_any (is_file file) family.1.tables) named.families id (tables file) (knows.has_tables id file);
    has_logs = knows.has_logs;
    old_ids = λ id number is. older_ids id number is (gone == id) refl;
    old_names = knows.old_names;
    old_tables = knows.old_tables;
  }
    where
      older_ids : (id number : ℕ) → new id ≡ Some number → (b : Bool) → (gone == id) ≡ b → number < next
      older_ids id number is true at = absurd (true≢false (sym (ap is_some (sym (set id ∙ ap (λ b. cond b None (ids id)) at) ∙ is))))
      older_ids id number is false at = knows.old_ids id number (sym (set id ∙ ap (λ b. cond b None (ids id)) at) ∙ is)

      ids_after : (id : ℕ) → has_id id (filter (λ family. not (family.1.id == gone)) named.families) ≡ is_some (new id)
      ids_after id = step (gone == id) refl
        where
          step : (b : Bool) → (gone == id) ≡ b → has_id id (filter (λ family. not (family.1.id == gone)) named.families) ≡ is_some (new id)
          step true is = any_gone (λ family. family.1.id == id) (λ family. family.1.id == gone)
              (λ family apart. ap (λ n. family.1.id == n) (sym (eqb-true gone id is)) ∙ apart) named.families
              ∙ sym (ap is_some (set id ∙ ap (λ b. cond b None (ids id)) is))
          step false is = any_kept (λ family. family.1.id == id) (λ family. family.1.id == gone)
              (λ family at. not_both family.1.id gone id at is) named.families
              ∙ knows.has_ids id ∙ sym (ap is_some (set id ∙ ap (λ b. cond b None (ids id)) is))

  -- a family is new
  module _ (made : ℕ) (name : List ℕ) (free : has_id made named.families ≡ false) (unnamed : is_some (value_at named.families name) ≡ false)
      (new : ℕ → Option ℕ) (set : IsSetAt nat_eq made (Some next) ids new)
      (after : List ℕ → Option Owner) (named_so : IsSetAt same name (Some (made, next)) names after) where
    none : ids made ≡ None
    none = none_is (ids made) (sym (knows.has_ids made) ∙ free)

    abbrev first_of : NamedFamily
    first_of = record { id = made; flushed = 0; tables = [] }

    abbrev with_one_more : List Named_
    with_one_more = set_at named.families name first_of

    no_one : (id : ℕ) → list_any (λ (one : Named_). (one.1.id == id) && same one.0 name) named.families ≡ false
    no_one id = knows.has_names id name ∙ not_there ids (names name) (sym (name_taken name) ∙ unnamed) id

    new_ids : (id : ℕ) → has_id id with_one_more ≡ is_some (new id)
    new_ids id = any_set (λ one. one.1.id == id) named.families name first_of unnamed ∙ ap (λ b. (made == id) || b) (knows.has_ids id) ∙ step (made == id) refl
      where
        step : (b : Bool) → (made == id) ≡ b → (b || is_some (ids id)) ≡ is_some (new id)
        step true is = sym (ap is_some (set id ∙ ap (λ b. cond b (Some next) (ids id)) is))
        step false is = sym (ap is_some (set id ∙ ap (λ b. cond b (Some next) (ids id)) is))

    new_names : (id : ℕ) (other : List ℕ) → list_any (λ (one : Named_). (one.1.id == id) && same one.0 other) with_one_more ≡ belongs_to id new (after other)
    new_names id other = any_set (λ one. (one.1.id == id) && same one.0 other) named.families name first_of unnamed ∙ step (same name other) refl
      where
        step : (b : Bool) → same name other ≡ b
            → (((made == id) && same name other) || list_any (λ (one : Named_). (one.1.id == id) && same one.0 other) named.families) ≡ belongs_to id new (after other)
        step true is =
            let here : name ≡ other = same_true name other is in
            ap (λ b. ((made == id) && b) || list_any (λ (one : Named_). (one.1.id == id) && same one.0 other) named.families) is
            ∙ ap (λ b. ((made == id) && true) || b) (ap (λ (l : List ℕ). list_any (λ (one : Named_). (one.1.id == id) && same one.0 l) named.families) (sym here) ∙ no_one id)
            ∙ plain (made == id)
            ∙ sym (belongs_first made next ids new set none id)
            ∙ sym (ap (belongs_to id new) (named_so other ∙ ap (λ b. cond b (Some (made, next)) (names other)) is))
          where
            plain : (b : Bool) → ((b && true) || false) ≡ b
            plain true = refl
            plain false = refl
        step false is =
            ap (λ b. ((made == id) && b) || list_any (λ (one : Named_). (one.1.id == id) && same one.0 other) named.families) is
            ∙ ap (λ b. b || list_any (λ (one : Named_). (one.1.id == id) && same one.0 other) named.families) (and_false (made == id))
            ∙ knows.has_names id other
            ∙ sym (belongs_same made next ids new set none id (names other) (knows.old_names other))
            ∙ sym (ap (belongs_to id new) (named_so other ∙ ap (λ b. cond b (Some (made, next)) (names other)) is))

    new_tables : (id file : ℕ) → list_any (λ (one : Named_). (one.1.id == id) && list_any (is_file file) one.1.tables) with_one_more ≡ belongs_to id new (tables file)
    new_tables id file = any_set (λ one. (one.1.id == id) && list_any (is_file file) one.1.tables) named.families name first_of unnamed
        ∙ ap (λ b. b || has_table_in named id file) (and_false (made == id))
        ∙ knows.has_tables id file
        ∙ sym (belongs_same made next ids new set none id (tables file) (knows.old_tables file))

    older_ids : (id number : ℕ) → new id ≡ Some number → (b : Bool) → (made == id) ≡ b → number < next + 1
    older_ids id number is true at =
        let e : next ≡ number = ap (unwrap_or_next) (sym (set id ∙ ap (λ b. cond b (Some next) (ids id)) at) ∙ is) in
        omega (arith, e)
      where
        unwrap_or_next : Option ℕ → ℕ
        unwrap_or_next None = next
        unwrap_or_next (Some n) = n
    older_ids id number is false at =
        let less = knows.old_ids id number (sym (set id ∙ ap (λ b. cond b (Some next) (ids id)) at) ∙ is) in
        omega (arith, less)

    older_names : AreOlder (next + 1) after
    older_names key owner is = step (same name key) refl
      where
        step : (b : Bool) → same name key ≡ b → owner.1 < next + 1
        step true at =
            let e : Some (made, next) ≡ Some owner = sym (named_so key ∙ ap (λ b. cond b (Some (made, next)) (names key)) at) ∙ is in
            let e1 : next ≡ owner.1 = ap (number_or next) e in
            omega (arith, e1)
          where
            number_or : ℕ → Option Owner → ℕ
            number_or n None = n
            number_or n (Some o) = o.1
        step false at =
            let less = knows.old_names key owner (sym (named_so key ∙ ap (λ b. cond b (Some (made, next)) (names key)) at) ∙ is) in
            omega (arith, less)

    pub knows_add_family : KnowsNamed new after tables logs (next + 1) (edited named (AddFamily made name))
    knows_add_family = record {
      has_ids = new_ids;
      has_names = new_names;
      has_tables = new_tables;
      has_logs = knows.has_logs;
      old_ids = λ id number is. older_ids id number is (made == id) refl;
      old_names = older_names;
      old_tables = λ key owner is. let less = knows.old_tables key owner is in omega (arith, less);
    }

  -- the families' tables or numbers change, and neither ids nor names
  module _ (at : ℕ) (change : NamedFamily → NamedFamily) (keeps : (family : NamedFamily) → (change family).id ≡ family.id) where
    abbrev changed_one : Named_ → Named_
    changed_one family = (family.0, cond (family.1.id == at) (change family.1) family.1)

    id_stays : (family : Named_) → (changed_one family).1.id ≡ family.1.id
    id_stays family = step (family.1.id == at)
      where
        step : (b : Bool) → (cond b (change family.1) family.1).id ≡ family.1.id
        step true = keeps family.1
        step false = refl

    pub changed_ids : (id : ℕ) → has_id id (changed_named at change named.families) ≡ is_some (ids id)
    changed_ids id = any_as (λ family. family.1.id == id) (λ family. family.1.id == id) changed_one
        (λ family. ap (λ n. n == id) (id_stays family)) named.families ∙ knows.has_ids id

    pub changed_names : (id : ℕ) (name : List ℕ) → list_any (λ (family : Named_). (family.1.id == id) && same family.0 name) (changed_named at change named.families) ≡ belongs_to id ids (names name)
    changed_names id name = any_as (λ family. (family.1.id == id) && same family.0 name) (λ family. (family.1.id == id) && same family.0 name) changed_one
        (λ family. ap (λ n. (n == id) && same family.0 name) (id_stays family)) named.families ∙ knows.has_names id name

    -- a file that the change leaves as it is
    pub changed_tables : (id file : ℕ) → ((family : NamedFamily) → ((family.id == at) && (family.id == id)) ≡ true → list_any (is_file file) (change family).tables ≡ list_any (is_file file) family.tables)
        → list_any (λ (family : Named_). (family.1.id == id) && list_any (is_file file) family.1.tables) (changed_named at change named.families) ≡ has_table_in named id file
    changed_tables id file same_one = any_as (λ family. (family.1.id == id) && list_any (is_file file) family.1.tables) (λ family. (family.1.id == id) && list_any (is_file file) family.1.tables) changed_one
        one named.families
      where
        one : (family : Named_) → (((changed_one family).1.id == id) && list_any (is_file file) (changed_one family).1.tables) ≡ ((family.1.id == id) && list_any (is_file file) family.1.tables)
        one family = ap (λ n. (n == id) && list_any (is_file file) (changed_one family).1.tables) (id_stays family) ∙ step (family.1.id == at) (family.1.id == id) refl refl
          where
            step : (a b : Bool) → (family.1.id == at) ≡ a → (family.1.id == id) ≡ b
                → (b && list_any (is_file file) (cond a (change family.1) family.1).tables) ≡ (b && list_any (is_file file) family.1.tables)
            step true true is here = same_one family.1 (both_true (family.1.id == at) (family.1.id == id) is here)
            step false b is here = refl
            step true false is here = refl

  -- a family is flushed
  pub knows_flushed : (at number : ℕ) → KnowsNamed ids names tables logs next (edited named (Flushed at number))
  knows_flushed at number = record {
    has_ids = changed_ids at (with_flushed_number number) (λ family. refl);
    has_names = changed_names at (with_flushed_number number) (λ family. refl);
    has_tables = λ id file. changed_tables at (with_flushed_number number) (λ family. refl) id file (λ family is. refl) ∙ knows.has_tables id file;
    has_logs = knows.has_logs;
    old_ids = knows.old_ids;
    old_names = knows.old_names;
    old_tables = knows.old_tables;
  }

  pub knows_last : (number : ℕ) → KnowsNamed ids names tables logs next (edited named (Last number))
  knows_last number = record {
    has_ids = knows.has_ids;
    has_names = knows.has_names;
    has_tables = knows.has_tables;
    has_logs = knows.has_logs;
    old_ids = knows.old_ids;
    old_names = knows.old_names;
    old_tables = knows.old_tables;
  }

  -- logs come and go
  pub knows_add_log : (file : ℕ) (new : ℕ → Bool) → IsSetAt nat_eq file true logs new → KnowsNamed ids names tables new next (edited named (AddLog file))
  knows_add_log file new set = record {
    has_ids = knows.has_ids;
    has_names = knows.has_names;
    has_tables = knows.has_tables;
    has_logs = λ other. any_put other file named.logs ∙ ap (λ b. (file == other) || b) (knows.has_logs other) ∙ step (file == other) (logs other) ∙ sym (set other);
    old_ids = knows.old_ids;
    old_names = knows.old_names;
    old_tables = knows.old_tables;
  }
    where
      step : (a b : Bool) → (a || b) ≡ cond a true b
      step true b = refl
      step false b = refl

  pub knows_drop_log : (file : ℕ) (new : ℕ → Bool) → IsSetAt nat_eq file false logs new → KnowsNamed ids names tables new next (edited named (DropLog file))
  knows_drop_log file new set = record {
    has_ids = knows.has_ids;
    has_names = knows.has_names;
    has_tables = knows.has_tables;
    has_logs = λ other. step other (file == other) refl ∙ sym (set other);
    old_ids = knows.old_ids;
    old_names = knows.old_names;
    old_tables = knows.old_tables;
  }
    where
      step : (other : ℕ) (b : Bool) → (file == other) ≡ b → list_any (λ log. log == other) (filter (λ log. not (log == file)) named.logs) ≡ cond (file == other) false (logs other)
      step other true is = any_gone (λ log. log == other) (λ log. log == file) (λ log apart. ap (λ n. log == n) (sym (eqb-true file other is)) ∙ apart) named.logs
          ∙ sym (ap (λ b. cond b false (logs other)) is)
      step other false is = any_kept (λ log. log == other) (λ log. log == file) (λ log at. not_both log file other at is) named.logs
          ∙ knows.has_logs other ∙ sym (ap (λ b. cond b false (logs other)) is)

  -- a table is new
  module _ (at : ℕ) (placed : Placement) (there : has_id at named.families ≡ true) (free : has_table named placed.file ≡ false)
      (current : ℕ) (is_now : ids at ≡ Some current) (after : ℕ → Option Owner) (set : IsSetAt nat_eq placed.file (Some (at, current)) tables after) where
    belongs_here : (id : ℕ) → belongs_to id ids (Some (at, current)) ≡ (at == id)
    belongs_here id = step (at == id) refl
      where
        step : (b : Bool) → (at == id) ≡ b → belongs_to id ids (Some (at, current)) ≡ b
        step true is = both_true (at == id) (is_current (ids id) current) is
            (ap (λ n. is_current (ids n) current) (sym (eqb-true at id is)) ∙ ap (λ here. is_current here current) is_now ∙ nat_self current)
        step false is = ap (λ b. b && is_current (ids id) current) is

    table_ties : (id file : ℕ) → list_any (λ (family : Named_). (family.1.id == id) && list_any (is_file file) family.1.tables) (changed_named at (with_table placed) named.families) ≡ belongs_to id ids (after file)
    table_ties id file = step (placed.file == file) refl
      where
        now_of : (b : Bool) → (placed.file == file) ≡ b → after file ≡ cond b (Some (at, current)) (tables file)
        now_of b is = set file ∙ ap (λ b. cond b (Some (at, current)) (tables file)) is

        same_file : placed.file ≡ file → (b : Bool) → (at == id) ≡ b → list_any (λ (family : Named_). (family.1.id == id) && list_any (is_file file) family.1.tables) (changed_named at (with_table placed) named.families) ≡ b
        same_file is true here =
            any_as (λ family. (family.1.id == id) && list_any (is_file file) family.1.tables) (λ family. family.1.id == at) (changed_one at (with_table placed) (λ family. refl))
            (λ family. hit family (family.1.id == at) refl) named.families ∙ there
          where
            hit : (family : Named_) (b : Bool) → (family.1.id == at) ≡ b
                → (((cond (family.1.id == at) (with_table placed family.1) family.1).id == id) && list_any (is_file file) (cond (family.1.id == at) (with_table placed family.1) family.1).tables) ≡ b
            hit family true e = ap (λ b. ((cond b (with_table placed family.1) family.1).id == id) && list_any (is_file file) (cond b (with_table placed family.1) family.1).tables) e
                ∙ both_true (family.1.id == id) ((placed.file == file) || list_any (is_file file) family.1.tables) (ap (λ n. family.1.id == n) (sym (eqb-true at id here)) ∙ e)
                (ap (λ n. (n == file) || list_any (is_file file) family.1.tables) is ∙ ap (λ b. b || list_any (is_file file) family.1.tables) (nat_self file))
            hit family false e = ap (λ b. ((cond b (with_table placed family.1) family.1).id == id) && list_any (is_file file) (cond b (with_table placed family.1) family.1).tables) e
                ∙ ap (λ b. b && list_any (is_file file) family.1.tables) (ap (λ n. family.1.id == n) (sym (eqb-true at id here)) ∙ e)
        same_file is false apart =
            changed_tables at (with_table placed) (λ family. refl) id file
            (λ family both. absurd (true≢false (sym (one_id family both) ∙ apart)))
            ∙ knows.has_tables id file
            ∙ not_there ids (tables file) (sym (file_taken file) ∙ ap (has_table named) (sym is) ∙ free) id
          where
            one_id : (family : NamedFamily) → ((family.id == at) && (family.id == id)) ≡ true → (at == id) ≡ true
            one_id family both = ap (λ n. n == id) (sym (eqb-true family.id at (one_of (family.id == at) (family.id == id) both))) ∙ two_of (family.id == at) (family.id == id) both

        step : (b : Bool) → (placed.file == file) ≡ b → list_any (λ (family : Named_). (family.1.id == id) && list_any (is_file file) family.1.tables) (changed_named at (with_table placed) named.families) ≡ belongs_to id ids (after file)
        step true is = same_file (eqb-true placed.file file is) (at == id) refl ∙ sym (ap (belongs_to id ids) (now_of true is) ∙ belongs_here id)
        step false is =
            changed_tables at (with_table placed) (λ family. refl) id file (λ family both. ap (λ b. b || list_any (is_file file) family.tables) is)
            ∙ knows.has_tables id file ∙ sym (ap (belongs_to id ids) (now_of false is))

    pub knows_add_table : current < next → KnowsNamed ids names after logs next (edited named (AddTable at placed))
    knows_add_table older = record {
      has_ids = changed_ids at (with_table placed) (λ family. refl);
      has_names = changed_names at (with_table placed) (λ family. refl);
      has_tables = table_ties;
      has_logs = knows.has_logs;
      old_ids = knows.old_ids;
      old_names = knows.old_names;
      old_tables = λ key owner is. step key owner is (placed.file == key) refl;
    }
      where
        number_or : ℕ → Option Owner → ℕ
        number_or n None = n
        number_or n (Some o) = o.1

        step : (key : ℕ) (owner : Owner) → after key ≡ Some owner → (b : Bool) → (placed.file == key) ≡ b → owner.1 < next
        step key owner is true e =
            let e1 : current ≡ owner.1 = ap (number_or current) (sym (set key ∙ ap (λ b. cond b (Some (at, current)) (tables key)) e) ∙ is) in
            subst (λ n. n < next) e1 older
        step key owner is false e = knows.old_tables key owner (sym (set key ∙ ap (λ b. cond b (Some (at, current)) (tables key)) e) ∙ is)

  -- a table goes
  module _ (at gone : ℕ) (there : has_table_in named at gone ≡ true) (after : ℕ → Option Owner) (set : IsSetAt nat_eq gone None tables after) where
    filtered_other : (file : ℕ) → (gone == file) ≡ false → (placed : List Placement) → list_any (is_file file) (filter (λ one. not (is_file gone one)) placed) ≡ list_any (is_file file) placed
    filtered_other file differ placed = any_kept (is_file file) (is_file gone) (λ one is. not_both one.file gone file is differ) placed

    filtered_gone : (placed : List Placement) → list_any (is_file gone) (filter (λ one. not (is_file gone one)) placed) ≡ false
    filtered_gone placed = any_gone (is_file gone) (is_file gone) (λ one apart. apart) placed

    owner_apart : (id : ℕ) (o : Option Owner) → belongs_to at ids o ≡ true → (at == id) ≡ false → belongs_to id ids o ≡ false
    owner_apart id None is differ = refl
    owner_apart id (Some owner) is differ = ap (λ b. b && is_current (ids id) owner.1) (not_both owner.0 at id (one_of (owner.0 == at) (is_current (ids at) owner.1) is) differ)

    gone_ties : (id : ℕ) → list_any (λ (family : Named_). (family.1.id == id) && list_any (is_file gone) family.1.tables) (changed_named at (without_table gone) named.families) ≡ false
    gone_ties id = step (at == id) refl
      where
        step : (b : Bool) → (at == id) ≡ b → list_any (λ (family : Named_). (family.1.id == id) && list_any (is_file gone) family.1.tables) (changed_named at (without_table gone) named.families) ≡ false
        step true is =
            any_as (λ family. (family.1.id == id) && list_any (is_file gone) family.1.tables) (λ family. false) (changed_one at (without_table gone) (λ family. refl))
            (λ family. miss family (family.1.id == at) refl) named.families ∙ any_none (λ (family : Named_). false) (λ family. refl) named.families
          where
            miss : (family : Named_) (b : Bool) → (family.1.id == at) ≡ b
                → (((cond (family.1.id == at) (without_table gone family.1) family.1).id == id) && list_any (is_file gone) (cond (family.1.id == at) (without_table gone family.1) family.1).tables) ≡ false
            miss family true e = ap (λ b. ((cond b (without_table gone family.1) family.1).id == id) && list_any (is_file gone) (cond b (without_table gone family.1) family.1).tables) e
                ∙ ap (λ b. (family.1.id == id) && b) (filtered_gone family.1.tables) ∙ and_false (family.1.id == id)
            miss family false e = ap (λ b. ((cond b (without_table gone family.1) family.1).id == id) && list_any (is_file gone) (cond b (without_table gone family.1) family.1).tables) e
                ∙ ap (λ b. b && list_any (is_file gone) family.1.tables) (ap (λ n. family.1.id == n) (sym (eqb-true at id is)) ∙ e)
        step false differ =
            changed_tables at (without_table gone) (λ family. refl) id gone
            (λ family both. absurd (true≢false (sym (ap (λ n. n == id) (sym (eqb-true family.id at (one_of (family.id == at) (family.id == id) both))) ∙ two_of (family.id == at) (family.id == id) both) ∙ differ)))
            ∙ knows.has_tables id gone
            ∙ owner_apart id (tables gone) (sym (knows.has_tables at gone) ∙ there) differ

    after_ties : (id file : ℕ) → list_any (λ (family : Named_). (family.1.id == id) && list_any (is_file file) family.1.tables) (changed_named at (without_table gone) named.families) ≡ belongs_to id ids (after file)
    after_ties id file = step (gone == file) refl
      where
        step : (b : Bool) → (gone == file) ≡ b → list_any (λ (family : Named_). (family.1.id == id) && list_any (is_file file) family.1.tables) (changed_named at (without_table gone) named.families) ≡ belongs_to id ids (after file)
        step true is =
            ap (λ n. list_any (λ (family : Named_). (family.1.id == id) && list_any (is_file n) family.1.tables) (changed_named at (without_table gone) named.families)) (sym (eqb-true gone file is))
            ∙ gone_ties id ∙ sym (ap (belongs_to id ids) (set file ∙ ap (λ b. cond b None (tables file)) is))
        step false is =
            changed_tables at (without_table gone) (λ family. refl) id file (λ family both. filtered_other file is family.tables)
            ∙ knows.has_tables id file ∙ sym (ap (belongs_to id ids) (set file ∙ ap (λ b. cond b None (tables file)) is))

    pub knows_drop_table : KnowsNamed ids names after logs next (edited named (DropTable at gone))
    knows_drop_table = record {
      has_ids = changed_ids at (without_table gone) (λ family. refl);
      has_names = changed_names at (without_table gone) (λ family. refl);
      has_tables = after_ties;
      has_logs = knows.has_logs;
      old_ids = knows.old_ids;
      old_names = knows.old_names;
      old_tables = λ key owner is. step key owner is (gone == key) refl;
    }
      where
        none_some : (owner : Owner) → None ≡ Some owner → ⊥
        none_some owner is = true≢false (sym (ap is_some is))

        step : (key : ℕ) (owner : Owner) → after key ≡ Some owner → (b : Bool) → (gone == key) ≡ b → owner.1 < next
        step key owner is true e = absurd (none_some owner (sym (set key ∙ ap (λ b. cond b None (tables key)) e) ∙ is))
        step key owner is false e = knows.old_tables key owner (sym (set key ∙ ap (λ b. cond b None (tables key)) e) ∙ is)
