-- How the index of names judges each edit, and what it has after it.
use Rattle.std.proofs.Common.{◌≡◌, ℕ, ◌+◌, ◌<◌, ◌≤◌, Bool, true, false, cond, not, ◌&&◌, ◌||◌, ◌==◌, List, [], ◌∷◌, Option, Some, None, is_some, is_eq, nat_eq, nat_lt, nat_le, arith, refl, sym, ap, subst, ◌∙◌, true≢false}
use Rattle.std.specs.Ordering.{nat_cmp}
use Rattle.std.specs.BTreeMap.{is_at}
use Rattle.std.proofs.lemmas.Bool.Decides.{nat_tests}
use Rattle.st_base.specs.Bytes.{bytes_cmp, same}
use Rattle.st_base.specs.Map.{value_at}
use Rattle.st_base.proofs.Same.{same_is_eq}
use Rattle.manifest_edits.specs.Edits.{Named, Placement, named_none, edited, is_right, has_id, has_log, has_table, has_table_in, may_place, AddFamily, DropFamily, AddTable, DropTable, Flushed, Last, AddLog, DropLog}
use Rattle.named_index.specs.Knows.{Owner, is_current, is_owned, belongs_to, IsJudgedBy, KnowsNamed}
use Rattle.named_index.proofs.Knowing.{IsSetAt, name_taken, file_taken, knows_add_family, knows_drop_family, knows_add_table, knows_drop_table, knows_flushed, knows_last, knows_add_log, knows_drop_log}

-- ---- what a map has once a key is set

number_test : (k other : ℕ) → is_at (nat_cmp k) other ≡ nat_eq k other
number_test k other = grind (arith, nat_tests)

pub set_number : {X : Type 0} (k : ℕ) (value : X) (old new : ℕ → X) → ((other : ℕ) → new other ≡ cond (is_at (nat_cmp k) other) value (old other)) → IsSetAt nat_eq k value old new
set_number k value old new set other = set other ∙ ap (λ b. cond b value (old other)) (number_test k other)

pub set_name : {X : Type 0} (k : List ℕ) (value : X) (old new : List ℕ → X) → ((other : List ℕ) → new other ≡ cond (is_at (bytes_cmp k) other) value (old other)) → IsSetAt same k value old new
set_name k value old new set other = set other ∙ ap (λ b. cond b value (old other)) (sym (same_is_eq k other))

-- nothing is named
pub knows_none : (ids : ℕ → Option ℕ) (names : List ℕ → Option Owner) (tables : ℕ → Option Owner) (logs : ℕ → Bool)
    → ((id : ℕ) → ids id ≡ None) → ((name : List ℕ) → names name ≡ None) → ((file : ℕ) → tables file ≡ None) → ((file : ℕ) → logs file ≡ false)
    → KnowsNamed ids names tables logs 0 named_none
knows_none ids names tables logs no_ids no_names no_tables no_logs = record {
  has_ids = λ id. sym (ap is_some (no_ids id));
  has_names = λ id name. sym (ap (belongs_to id ids) (no_names name));
  has_tables = λ id file. sym (ap (belongs_to id ids) (no_tables file));
  has_logs = λ file. sym (no_logs file);
  old_ids = λ id number is. absurd (true≢false (sym (ap is_some (sym (no_ids id) ∙ is))));
  old_names = λ name owner is. absurd (true≢false (sym (ap is_some (sym (no_names name) ∙ is))));
  old_tables = λ file owner is. absurd (true≢false (sym (ap is_some (sym (no_tables file) ∙ is))));
}

-- ---- each kind of edit

not_and : (a b : Bool) → a ≡ false → b ≡ false → (not a && not b) ≡ true
not_and true b one two = absurd (true≢false one)
not_and false true one two = absurd (true≢false two)
not_and false false one two = refl

not_and_left : (a b : Bool) → a ≡ true → (not a && b) ≡ false
not_and_left true b is = refl
not_and_left false b is = absurd (true≢false (sym is))

not_and_right : (a b : Bool) → b ≡ true → (a && not b) ≡ false
not_and_right true true is = refl
not_and_right false true is = refl
not_and_right a false is = absurd (true≢false (sym is))

and_left : (a b : Bool) → a ≡ false → (a && b) ≡ false
and_left true b is = absurd (true≢false is)
and_left false b is = refl

and_right : (a b : Bool) → b ≡ false → (a && b) ≡ false
and_right true b is = is
and_right false b is = refl

and_true : (a b : Bool) → a ≡ true → b ≡ true → (a && b) ≡ true
and_true true b one two = two
and_true false b one two = absurd (true≢false (sym one))

module _ (ids : ℕ → Option ℕ) (names : List ℕ → Option Owner) (tables : ℕ → Option Owner) (logs : ℕ → Bool) (next : ℕ) (named : Named)
    (knows : KnowsNamed ids names tables logs next named) where
  pub id_is_taken : (id : ℕ) (name : List ℕ) → is_some (ids id) ≡ true → is_right named (AddFamily id name) ≡ false
  id_is_taken id name is = not_and_left (has_id id named.families) (not (is_some (value_at named.families name))) (knows.has_ids id ∙ is)

  pub name_is_taken : (id : ℕ) (name : List ℕ) → is_owned ids (names name) ≡ true → is_right named (AddFamily id name) ≡ false
  name_is_taken id name is = not_and_right (not (has_id id named.families)) (is_some (value_at named.families name)) (name_taken ids names tables logs next named knows name ∙ is)

  pub family_added : (id : ℕ) (name : List ℕ) → is_some (ids id) ≡ false → is_owned ids (names name) ≡ false
      → (new : ℕ → Option ℕ) → IsSetAt nat_eq id (Some next) ids new → (after : List ℕ → Option Owner) → IsSetAt same name (Some (id, next)) names after
      → IsJudgedBy new after tables logs (next + 1) named (AddFamily id name) true
  family_added id name free unnamed new set after named_so =
      let no_id : has_id id named.families ≡ false = knows.has_ids id ∙ free in
      let no_name : is_some (value_at named.families name) ≡ false = name_taken ids names tables logs next named knows name ∙ unnamed in (
        not_and (has_id id named.families) (is_some (value_at named.families name)) no_id no_name,
        knows_add_family ids names tables logs next named knows id name no_id no_name new set after named_so,
      )

  pub family_dropped : (id : ℕ) (found : Option ℕ) → found ≡ ids id → (new : ℕ → Option ℕ) → IsSetAt nat_eq id None ids new
      → IsJudgedBy new names tables logs next named (DropFamily id) (is_some found)
  family_dropped id None is new set = knows.has_ids id ∙ ap is_some (sym is)
  family_dropped id (Some number) is new set = (knows.has_ids id ∙ ap is_some (sym is), knows_drop_family ids names tables logs next named knows id new set)

  pub no_family : (id : ℕ) (placed : Placement) → ids id ≡ None → is_right named (AddTable id placed) ≡ false
  no_family id placed is = and_left (has_id id named.families && not (has_table named placed.file)) (may_place placed)
      (and_left (has_id id named.families) (not (has_table named placed.file)) (knows.has_ids id ∙ ap is_some is))

  pub no_place : (id : ℕ) (placed : Placement) → may_place placed ≡ false → is_right named (AddTable id placed) ≡ false
  no_place id placed is = and_right (has_id id named.families && not (has_table named placed.file)) (may_place placed) is

  pub file_is_taken : (id : ℕ) (placed : Placement) → is_owned ids (tables placed.file) ≡ true → is_right named (AddTable id placed) ≡ false
  file_is_taken id placed is = and_left (has_id id named.families && not (has_table named placed.file)) (may_place placed)
      (and_right (has_id id named.families) (not (has_table named placed.file)) (ap not (file_taken ids names tables logs next named knows placed.file ∙ is)))

  pub table_added : (id : ℕ) (placed : Placement) (number : ℕ) → ids id ≡ Some number → may_place placed ≡ true → is_owned ids (tables placed.file) ≡ false
      → (after : ℕ → Option Owner) → IsSetAt nat_eq placed.file (Some (id, number)) tables after
      → IsJudgedBy ids names after logs next named (AddTable id placed) true
  table_added id placed number is may free after set =
      let there : has_id id named.families ≡ true = knows.has_ids id ∙ ap is_some is in
      let no_file : has_table named placed.file ≡ false = file_taken ids names tables logs next named knows placed.file ∙ free in (
        and_true (has_id id named.families && not (has_table named placed.file)) (may_place placed)
            (and_true (has_id id named.families) (not (has_table named placed.file)) there (ap not no_file)) may,
        knows_add_table ids names tables logs next named knows id placed there no_file number is after set (knows.old_ids id number is),
      )

  pub no_table : (id file : ℕ) → belongs_to id ids (tables file) ≡ false → is_right named (DropTable id file) ≡ false
  no_table id file is = knows.has_tables id file ∙ is

  pub table_dropped : (id file : ℕ) → belongs_to id ids (tables file) ≡ true → (after : ℕ → Option Owner) → IsSetAt nat_eq file None tables after
      → IsJudgedBy ids names after logs next named (DropTable id file) true
  table_dropped id file is after set =
      (knows.has_tables id file ∙ is, knows_drop_table ids names tables logs next named knows id file (knows.has_tables id file ∙ is) after set)

  pub flushed_judged : (id number : ℕ) (found : Bool) → found ≡ is_some (ids id) → IsJudgedBy ids names tables logs next named (Flushed id number) found
  flushed_judged id number true is = (knows.has_ids id ∙ sym is, knows_flushed ids names tables logs next named knows id number)
  flushed_judged id number false is = knows.has_ids id ∙ sym is

  pub last_judged : (number : ℕ) → IsJudgedBy ids names tables logs next named (Last number) true
  last_judged number = (refl, knows_last ids names tables logs next named knows number)

  pub log_is_taken : (file : ℕ) → logs file ≡ true → is_right named (AddLog file) ≡ false
  log_is_taken file is = not_and_left (has_log named file) (nat_lt 1 file) (knows.has_logs file ∙ is)

  pub log_has_meaning : (file : ℕ) → file ≤ 1 → is_right named (AddLog file) ≡ false
  log_has_meaning file low = and_right (not (has_log named file)) (nat_lt 1 file) (grind (arith, nat_tests, low))

  pub log_added : (file : ℕ) → 1 < file → logs file ≡ false → (new : ℕ → Bool) → IsSetAt nat_eq file true logs new
      → IsJudgedBy ids names tables new next named (AddLog file) true
  log_added file high free new set = (
    and_true (not (has_log named file)) (nat_lt 1 file) (ap not (knows.has_logs file ∙ free)) (grind (arith, nat_tests, high)),
    knows_add_log ids names tables logs next named knows file new set,
  )

  pub log_dropped : (file : ℕ) (found : Bool) → found ≡ logs file → (new : ℕ → Bool) → IsSetAt nat_eq file false logs new
      → IsJudgedBy ids names tables new next named (DropLog file) found
  log_dropped file true is new set = (knows.has_logs file ∙ sym is, knows_drop_log ids names tables logs next named knows file new set)
  log_dropped file false is new set = knows.has_logs file ∙ sym is
