-- The keys at the ends of rows.
use Rattle.std.proofs.Common.{◌≡◌, suc, ◌-◌, List, [], ◌∷◌, length, get_or, Option, Some, unwrap_or, refl, sym, ap, ◌∙◌, arith}
use Rattle.std.specs.Prelude.{slice_get, option_map}
use Rattle.st_base.specs.Rows.{first_key, last_key}
use Rattle.st_base.specs.declared.entry.Entry.{Entry}
use Rattle.st_base.specs.Range.{key_at_front, key_at_end}

pub front_of : (entries : List Entry) → unwrap_or (first_key entries) [] ≡ key_at_front entries
front_of [] = refl
front_of (entry ∷ entries) = refl

-- the last key is that of the last index
pub end_at : (entry : Entry) (entries : List Entry) (d : Entry) → key_at_end (entry ∷ entries) ≡ (get_or (entry ∷ entries) (length entries) d).key
end_at entry [] d = refl
end_at entry (other ∷ entries) d = end_at other entries d

key_there : (entry : Entry) (entries : List Entry) → unwrap_or (option_map (λ (x : Entry). x.key) (slice_get (entry ∷ entries) (length entries))) [] ≡ key_at_end (entry ∷ entries)
key_there entry [] = refl
key_there entry (other ∷ entries) = key_there other entries

pub end_of : (entries : List Entry) → unwrap_or (last_key entries) [] ≡ key_at_end entries
end_of [] = refl
end_of (entry ∷ entries) =
    ap (λ n. unwrap_or (option_map (λ (x : Entry). x.key) (slice_get (entry ∷ entries) n)) []) (let e : suc (length entries) - 1 ≡ length entries = omega arith in e)
    ∙ key_there entry entries

-- the entry at the end has the key at the end
pub end_there : (entries : List Entry) (last : Entry) → Some last ≡ slice_get entries (length entries - 1) → key_at_end entries ≡ last.key
end_there entries last e = sym (end_of entries) ∙ sym (ap (λ (found : Option Entry). unwrap_or (option_map (λ (x : Entry). x.key) found) []) e)
