-- What holds where a step of reading gives a value.
use Rattle.std.proofs.Common.{◌≡◌, ℕ, ◌+◌, ◌-◌, ◌≤◌, Bool, true, false, cond, eqb, ltb, List, length, Option, Some, None, Result, Ok, Err, refl, sym, ap, subst, ◌∙◌}
use Rattle.std.specs.Prelude.{not, option_and_then, IfSome}
use Rattle.std.specs.Option.{is_some}
use Rattle.std.proofs.lemmas.Bool.{eqb-true, eq-eqb, ltb-false, leb-true, le-leb, le-ltb}
use Rattle.st_base.proofs.Same.{same_true, same_self}
use Rattle.st_base.specs.Bytes.{same}
use Rattle.st_base.specs.declared.faults.BlockFault.{BlockFault}
use Rattle.st_base.specs.declared.faults.TableFault.{TableFault}
use Rattle.st_base.specs.declared.faults.TableFault.TheVariants.{Checksum, Comparator, Compressed, ExternalVersion, IndexKind, Magic, RangeDel, Short, Sum, TooLarge, Version, Handle as HandleFault}
use Rattle.st_block.specs.Block.{Cell, block_of, entries_end, restarts_of}
use Rattle.st_block.specs.BlockContents.{BlockContents}
use Rattle.st_block.specs.declared.kind.BlockKind.{BlockKind}
use Rattle.st_table.specs.Footer.{checksum_of, footer_of, greatest_size, handles_of, magic_of, version_of}
use Rattle.st_table.specs.Handle.{exactly, footer_handle, handle_at, lies, lying, value_handle}
use Rattle.st_table.specs.IsTable.{AreProperties, IsFooter, IsMetaindex, IsStored, IsVersioned}
use Rattle.st_table.specs.Metaindex.{named_in, properties_at, properties_handle, properties_name, range_del_name}
use Rattle.st_table.specs.Properties.{bytewise, compared, comparator_fault, comparator_name, fixed32_value, index_type_fault, index_type_name, indexed, or_fault, properties_fault, property, typed, version_fault, version_name, versioned}
use Rattle.st_table.specs.Steps.{◌>>=◌, unless}
use Rattle.st_table.specs.Stored.{block_at, compression, contents_at, found_sum, opened_block, stored_sum}
use Rattle.st_table.specs.declared.footer.Footer.{Footer}
use Rattle.st_table.specs.declared.footer.TheConstants.{MAGIC}
use Rattle.st_table.specs.declared.handle.Handle.{Handle}
use Rattle.st_table.specs.declared.kind.TableKind.{TableKind}
use Rattle.st_table.specs.declared.kind.TableKind.TheVariants.{External, Own}

-- ---- steps

pub bind_ok : {A B : Type 0} (r : Result A TableFault) (f : A → Result B TableFault) (y : B) → (r >>= f) ≡ Ok y → (x : A) × (r ≡ Ok x) × (f x ≡ Ok y)
bind_ok (Ok x) f y e = (x, refl, e)
bind_ok (Err fault) f y e = absurd cc

pub ok_bind : {A B : Type 0} (r : Result A TableFault) (f : A → Result B TableFault) (x : A) (y : B) → r ≡ Ok x → f x ≡ Ok y → (r >>= f) ≡ Ok y
ok_bind {A} {B} r f x y e g = ap (λ (s : Result A TableFault). s >>= f) e ∙ g

pub unless_ok : {A : Type 0} (o : Option TableFault) (r : Result A TableFault) (y : A) → unless o r ≡ Ok y → (o ≡ None) × (r ≡ Ok y)
unless_ok None r y e = (refl, e)
unless_ok (Some fault) r y e = absurd cc

pub guard_ok : {A : Type 0} (t : Bool) (fault : TableFault) (r : Result A TableFault) (y : A) → cond t (Err fault) r ≡ Ok y → (t ≡ false) × (r ≡ Ok y)
guard_ok true fault r y e = absurd cc
guard_ok false fault r y e = (refl, e)

-- a test that passes
pub skip : {A : Type 0} (t : Bool) (fault : TableFault) (r : Result A TableFault) (y : A) → t ≡ false → r ≡ Ok y → cond t (Err fault) r ≡ Ok y
skip true fault r y e g = absurd cc
skip false fault r y e g = g

pub either_ok : {A : Type 0} (t : Bool) (x y : A) (fault : TableFault) → (let r : Result A TableFault = cond t (Ok x) (Err fault) in r) ≡ Ok y → (t ≡ true) × (x ≡ y)
either_ok true x y fault e = (refl, cc)
either_ok false x y fault e = absurd cc

pub not_false : (t : Bool) → not t ≡ false → t ≡ true
not_false true e = refl
not_false false e = absurd cc

pub true_not : (t : Bool) → t ≡ true → not t ≡ false
true_not true e = refl
true_not false e = absurd cc

pub is_ok_same : {A : Type 0} (x y : A) → (let r : Result A TableFault = Ok x in r) ≡ Ok y → x ≡ y
is_ok_same x y e = cc

-- ---- handles

lying_ok : (bytes : List ℕ) (at : ℕ) (o : Option (Handle × ℕ)) (found : Handle × ℕ) → lying bytes at o ≡ Ok found → (o ≡ Some found) × (lies bytes found.0 ≡ true)
lying_ok bytes at None found e = absurd cc
lying_ok bytes at (Some other) found e =
    let p = either_ok (lies bytes other.0) other found (HandleFault at) e in
    (ap (λ (f : Handle × ℕ). Some f) p.1, subst (λ (f : Handle × ℕ). lies bytes f.0 ≡ true) p.1 p.0)

exactly_ok : (bytes : List ℕ) (at size : ℕ) (o : Option (Handle × ℕ)) (handle : Handle) → exactly bytes at size o ≡ Ok handle → (o ≡ Some (handle, size)) × (lies bytes handle ≡ true)
exactly_ok bytes at size None handle e = absurd cc
exactly_ok bytes at size (Some other) handle e =
    let p = inner (eqb other.1 size) (lies bytes other.0) e in
    (ap (λ (h : Handle). Some (h, other.1)) p.2 ∙ ap (λ (n : ℕ). Some (handle, n)) (eqb-true other.1 size p.0), subst (λ (h : Handle). lies bytes h ≡ true) p.2 p.1)
  where
    inner : (s t : Bool) → (let r : Result Handle TableFault = cond s (cond t (Ok other.0) (Err (HandleFault at))) (Err (HandleFault at)) in r) ≡ Ok handle → (s ≡ true) × (t ≡ true) × (other.0 ≡ handle)
    inner true true e = (refl, refl, cc)
    inner true false e = absurd cc
    inner false t e = absurd cc

pub value_handle_ok : (bytes : List ℕ) (at : ℕ) (value : List ℕ) (handle : Handle) → value_handle bytes at value ≡ Ok handle → (handle_at value 0 ≡ Some (handle, length value)) × (lies bytes handle ≡ true)
value_handle_ok bytes at value handle e = exactly_ok bytes at (length value) (handle_at value 0) handle e

pub ok_value_handle : (bytes : List ℕ) (at : ℕ) (value : List ℕ) (handle : Handle) → handle_at value 0 ≡ Some (handle, length value) → lies bytes handle ≡ true → value_handle bytes at value ≡ Ok handle
ok_value_handle bytes at value handle e l =
    ap (exactly bytes at (length value)) e
    ∙ ap (λ (t : Bool). cond t (cond (lies bytes handle) (Ok handle) (Err (HandleFault at))) (Err (HandleFault at))) (eq-eqb (length value) (length value) refl)
    ∙ ap (λ (t : Bool). cond t (Ok handle) (Err (HandleFault at))) l

-- ---- the footer

pub footer_ok : (kind : TableKind) (bytes : List ℕ) (footer : Footer) → footer_of kind bytes ≡ Ok footer
    → (length bytes ≤ greatest_size kind) × IsFooter bytes footer × (lies bytes footer.metaindex ≡ true) × (lies bytes footer.index ≡ true)
unfolding footer_of handles_of
footer_ok kind bytes footer e =
    let a = guard_ok (ltb (greatest_size kind) (length bytes)) TooLarge _ footer e in
    let b = guard_ok (ltb (length bytes) 53) Short _ footer a.1 in
    let c = guard_ok (not (eqb (magic_of bytes) MAGIC)) Magic _ footer b.1 in
    let d = guard_ok (not (eqb (version_of bytes) 2)) (Version (version_of bytes)) _ footer c.1 in
    let f = guard_ok (not (eqb (checksum_of bytes) 1)) (Checksum (checksum_of bytes)) _ footer d.1 in
    let m = bind_ok (footer_handle bytes (length bytes - 52)) _ footer f.1 in
    let i = bind_ok (footer_handle bytes m.0.1) _ footer m.2 in
    let mh = lying_ok bytes (length bytes - 52) (handle_at bytes (length bytes - 52)) m.0 m.1 in
    let ih = lying_ok bytes m.0.1 (handle_at bytes m.0.1) i.0 i.1 in
    let same : (let f : Footer = record { metaindex = m.0.0; index = i.0.0 } in f) ≡ footer = is_ok_same _ footer i.2 in
    let is : IsFooter bytes (record { metaindex = m.0.0; index = i.0.0 }) = record {
      long = ltb-false _ _ b.0;
      magic_is = eqb-true _ _ (not_false _ c.0);
      version_is = eqb-true _ _ (not_false _ d.0);
      checksum_is = eqb-true _ _ (not_false _ f.0);
      index_at = m.0.1;
      behind = i.0.1;
      metaindex_is = mh.0;
      index_is = ih.0;
    } in
    (ltb-false _ _ a.0, subst (λ (f : Footer). IsFooter bytes f) same is, subst (λ (f : Footer). lies bytes f.metaindex ≡ true) same mh.1, subst (λ (f : Footer). lies bytes f.index ≡ true) same ih.1)

pub ok_footer : (kind : TableKind) (bytes : List ℕ) (footer : Footer) → length bytes ≤ greatest_size kind → IsFooter bytes footer → lies bytes footer.metaindex ≡ true → lies bytes footer.index ≡ true → footer_of kind bytes ≡ Ok footer
unfolding footer_of handles_of
ok_footer kind bytes footer size is ml il =
    skip (ltb (greatest_size kind) (length bytes)) TooLarge _ footer (le-ltb _ _ size)
    (skip (ltb (length bytes) 53) Short _ footer (le-ltb _ _ is.long)
    (skip (not (eqb (magic_of bytes) MAGIC)) Magic _ footer (true_not _ (eq-eqb _ _ is.magic_is))
    (skip (not (eqb (version_of bytes) 2)) (Version (version_of bytes)) _ footer (true_not _ (eq-eqb _ _ is.version_is))
    (skip (not (eqb (checksum_of bytes) 1)) (Checksum (checksum_of bytes)) _ footer (true_not _ (eq-eqb _ _ is.checksum_is))
    (ok_bind (footer_handle bytes (length bytes - 52)) _ (footer.metaindex, is.index_at) footer (here (length bytes - 52) (footer.metaindex, is.index_at) is.metaindex_is ml)
    (ok_bind (footer_handle bytes is.index_at) _ (footer.index, is.behind) footer (here is.index_at (footer.index, is.behind) is.index_is il) refl))))))
  where
    here : (at : ℕ) (found : Handle × ℕ) → handle_at bytes at ≡ Some found → lies bytes found.0 ≡ true → footer_handle bytes at ≡ Ok found
    here at found e l = ap (lying bytes at) e ∙ ap (λ (t : Bool). cond t (Ok found) (Err (HandleFault at))) l

-- ---- a stored block

opened_ok : (kind : BlockKind) (at : ℕ) (text : List ℕ) (r : Result (List Cell) BlockFault) (block : BlockContents) → opened_block kind at text r ≡ Ok block → (r ≡ Ok block.cells) × (block.end ≡ entries_end text) × (block.kind ≡ kind) × (block.restarts ≡ restarts_of text)
opened_ok kind at text (Err fault) block e = absurd cc
opened_ok kind at text (Ok cells) block e =
    let same : (let c : BlockContents = record { kind = kind; end = entries_end text; cells = cells; restarts = restarts_of text } in c) ≡ block = is_ok_same _ block e in
    (ap (λ (c : BlockContents). Ok c.cells) same, sym (ap (λ (c : BlockContents). c.end) same), sym (ap (λ (c : BlockContents). c.kind) same), sym (ap (λ (c : BlockContents). c.restarts) same))

pub block_at_ok : (kind : BlockKind) (bytes : List ℕ) (handle : Handle) (block : BlockContents) → lies bytes handle ≡ true → block_at kind bytes handle ≡ Ok block → IsStored bytes kind handle block
unfolding block_at
block_at_ok kind bytes handle block l e =
    let a = guard_ok (not (eqb (compression bytes handle) 0)) (Compressed handle.offset) _ block e in
    let b = guard_ok (not (eqb (stored_sum bytes handle) (found_sum bytes handle))) (Sum handle.offset (stored_sum bytes handle) (found_sum bytes handle)) _ block a.1 in
    let o = opened_ok kind handle.offset (contents_at bytes handle) (block_of kind (contents_at bytes handle)) block b.1 in
    record { inside = leb-true _ _ l; uncompressed = eqb-true _ _ (not_false _ a.0); sum = eqb-true _ _ (not_false _ b.0); cells_are = o.0; end_is = o.1; kind_is = o.2; restarts_are = o.3 }

pub ok_block_at : (kind : BlockKind) (bytes : List ℕ) (handle : Handle) (block : BlockContents) → IsStored bytes kind handle block → block_at kind bytes handle ≡ Ok block
unfolding block_at
ok_block_at kind bytes handle block is =
    skip (not (eqb (compression bytes handle) 0)) (Compressed handle.offset) _ block (true_not _ (eq-eqb _ _ is.uncompressed))
    (skip (not (eqb (stored_sum bytes handle) (found_sum bytes handle))) (Sum handle.offset (stored_sum bytes handle) (found_sum bytes handle)) _ block (true_not _ (eq-eqb _ _ is.sum))
    (ap (opened_block kind handle.offset (contents_at bytes handle)) is.cells_are
    ∙ ap (λ (n : ℕ). let r : Result BlockContents TableFault = Ok (record { kind = kind; end = n; cells = block.cells; restarts = restarts_of (contents_at bytes handle) }) in r) (sym is.end_is)
    ∙ ap (λ (l : List ℕ). let r : Result BlockContents TableFault = Ok (record { kind = kind; end = block.end; cells = block.cells; restarts = l }) in r) (sym is.restarts_are)
    ∙ ap (λ (k : BlockKind). let r : Result BlockContents TableFault = Ok (record { kind = k; end = block.end; cells = block.cells; restarts = block.restarts }) in r) (sym is.kind_is)))

pub stored_lies : (bytes : List ℕ) (kind : BlockKind) (handle : Handle) (block : BlockContents) → IsStored bytes kind handle block → lies bytes handle ≡ true
stored_lies bytes kind handle block is = le-leb _ _ is.inside

-- ---- names

none_of : {A : Type 0} (o : Option A) → is_some o ≡ false → o ≡ None
none_of None e = refl
none_of (Some x) e = absurd cc

properties_at_ok : (bytes : List ℕ) (at : ℕ) (o : Option (ℕ × List ℕ)) (handle : Handle) → properties_at bytes at o ≡ Ok handle → (found : ℕ × List ℕ) × (o ≡ Some found) × (value_handle bytes (at + found.0) found.1 ≡ Ok handle)
properties_at_ok bytes at None handle e = absurd cc
properties_at_ok bytes at (Some found) handle e = (found, refl, e)

pub names_ok : (bytes : List ℕ) (at : ℕ) (metaindex : BlockContents) (handle : Handle) → properties_handle bytes at metaindex ≡ Ok handle → IsMetaindex metaindex handle × (lies bytes handle ≡ true)
unfolding properties_handle
names_ok bytes at metaindex handle e =
    let a = guard_ok (is_some (named_in range_del_name metaindex)) RangeDel _ handle e in
    let p = properties_at_ok bytes at (named_in properties_name metaindex) handle a.1 in
    let h = value_handle_ok bytes (at + p.0.0) p.0.1 handle p.2 in
    (record { no_range_deletions = none_of (named_in range_del_name metaindex) a.0; at = p.0.0; value = p.0.1; found = p.1; handle_is = h.0 }, h.1)

pub ok_names : (bytes : List ℕ) (at : ℕ) (metaindex : BlockContents) (handle : Handle) → IsMetaindex metaindex handle → lies bytes handle ≡ true → properties_handle bytes at metaindex ≡ Ok handle
unfolding properties_handle
ok_names bytes at metaindex handle is l =
    skip (is_some (named_in range_del_name metaindex)) RangeDel _ handle (ap (λ (o : Option (ℕ × List ℕ)). is_some o) is.no_range_deletions)
    (ap (properties_at bytes at) is.found ∙ ok_value_handle bytes (at + is.at) is.value handle is.handle_is l)

-- ---- properties

or_else_none : (o p : Option TableFault) → or_fault o p ≡ None → (o ≡ None) × (p ≡ None)
or_else_none None p e = (refl, e)
or_else_none (Some fault) p e = absurd cc

versioned_none : (o : Option ℕ) → versioned o ≡ None → o ≡ Some 2
versioned_none None e = absurd cc
versioned_none (Some version) e = inner (eqb version 2) refl e
  where
    inner : (t : Bool) → eqb version 2 ≡ t → (let o : Option TableFault = cond t None (Some (ExternalVersion (Some version))) in o) ≡ None → Some version ≡ Some 2
    inner true s e = ap (λ (n : ℕ). Some n) (eqb-true version 2 s)
    inner false s e = absurd cc

compared_none : (o : Option (List ℕ)) → compared o ≡ None → IfSome o (λ value. value ≡ bytewise)
compared_none None e = tt
compared_none (Some value) e = inner (same value bytewise) refl e
  where
    inner : (t : Bool) → same value bytewise ≡ t → (let o : Option TableFault = cond t None (Some Comparator) in o) ≡ None → value ≡ bytewise
    inner true s e = same_true value bytewise s
    inner false s e = absurd cc

indexed_none : (o : Option ℕ) → indexed o ≡ None → o ≡ Some 0
indexed_none None e = absurd cc
indexed_none (Some number) e = inner (eqb number 0) refl e
  where
    inner : (t : Bool) → eqb number 0 ≡ t → (let o : Option TableFault = cond t None (Some IndexKind) in o) ≡ None → Some number ≡ Some 0
    inner true s e = ap (λ (n : ℕ). Some n) (eqb-true number 0 s)
    inner false s e = absurd cc

typed_none : (o : Option (List ℕ)) → typed o ≡ None → IfSome o (λ value. fixed32_value value ≡ Some 0)
typed_none None e = tt
typed_none (Some value) e = indexed_none (fixed32_value value) e

pub properties_ok : (kind : TableKind) (properties : BlockContents) → properties_fault kind properties ≡ None → AreProperties kind properties
unfolding properties_fault
properties_ok kind properties e =
    let a = or_else_none (version_fault kind properties) _ e in
    let b = or_else_none (comparator_fault properties) (index_type_fault properties) a.1 in
    record { version = version_is kind a.0; comparator = compared_none (property comparator_name properties) b.0; index_type = typed_none (property index_type_name properties) b.1 }
  where
    version_is : (k : TableKind) → version_fault k properties ≡ None → IsVersioned k properties
    version_is External e = versioned_none (option_and_then fixed32_value (property version_name properties)) e
    version_is Own e = tt

none_compared : (o : Option (List ℕ)) → IfSome o (λ value. value ≡ bytewise) → compared o ≡ None
none_compared None h = refl
none_compared (Some value) h = ap (λ (t : Bool). let o : Option TableFault = cond t None (Some Comparator) in o) (ap (λ (l : List ℕ). same l bytewise) h ∙ same_self bytewise)

none_typed : (o : Option (List ℕ)) → IfSome o (λ value. fixed32_value value ≡ Some 0) → typed o ≡ None
none_typed None h = refl
none_typed (Some value) h = ap indexed h

pub ok_properties : (kind : TableKind) (properties : BlockContents) → AreProperties kind properties → properties_fault kind properties ≡ None
unfolding properties_fault
ok_properties kind properties are =
    ap (λ (o : Option TableFault). or_fault o (or_fault (comparator_fault properties) (index_type_fault properties))) (none_versioned kind are.version)
    ∙ ap (λ (o : Option TableFault). or_fault o (index_type_fault properties)) (none_compared (property comparator_name properties) are.comparator)
    ∙ none_typed (property index_type_name properties) are.index_type
  where
    none_versioned : (k : TableKind) → IsVersioned k properties → version_fault k properties ≡ None
    none_versioned External e = ap versioned e
    none_versioned Own e = refl
