-- Which records of a manifest are of whole groups.
use Rattle.std.proofs.Common.{◌≡◌, inl, inr, ℕ, ◌+◌, ◌==◌, Bool, true, false, cond, List, [], ◌∷◌, ◌++◌, None, Ok, Err, Result, refl, sym, ◌∙◌, ap, subst, append-nil, append_assoc, arith}
use Rattle.manifest_edits.specs.Edits.{Edit, GroupRecord, ManifestReading, Named, edits_of, group_closed, group_edited, follows_in_group, manifest_reading_none, read_records}
use Rattle.manifest_edits.specs.Groups.{CountsDown, IsGroup}
use Rattle.manifest_edits.specs.Logs.{LogFound}
use Rattle.manifest_edits.proofs.Reading.{assoc_one, begun_group, reading_of, whole_group}
use Rattle.st_manifest.specs.Laws.{GroupIsAtomic}
use Rattle.st_manifest.specs.Manifest.{edits_or_damage, manifest_replayed, whole_records}

-- whole groups, and more behind them
whole_behind : (begun records more : List GroupRecord) (named after : Named) → read_records (reading_of named begun) records ≡ Ok (reading_of after []) → whole_records begun (records ++ more) ≡ begun ++ (records ++ whole_records [] more)
whole_behind begun [] more named after is = subst (λ (l : List GroupRecord). whole_records l more ≡ l ++ whole_records [] more) (sym none) refl
  where
    none : begun ≡ []
    none = begun_is (reading_of named begun) (reading_of after []) is
      where
        begun_is : (one other : ManifestReading) → ◌≡◌ {A = Result ManifestReading ℕ} (Ok one) (Ok other) → one.begun ≡ other.begun
        begun_is one other e = let same : one ≡ other = cc e in ap (λ (r : ManifestReading). r.begun) same
whole_behind begun (next ∷ records) more named after is =
    go (follows_in_group begun next) (next.left == 0) (group_edited named next.at (begun ++ next ∷ [])) (λ other e. whole_behind [] records more other after e) (λ e. whole_behind (begun ++ next ∷ []) records more named after e) is
  where
    go : (follows ends : Bool) (closed : Result Named ℕ) → ((other : Named) → read_records (reading_of other []) records ≡ Ok (reading_of after []) → whole_records [] (records ++ more) ≡ records ++ whole_records [] more)
        → (read_records (reading_of named (begun ++ next ∷ [])) records ≡ Ok (reading_of after []) → whole_records (begun ++ next ∷ []) (records ++ more) ≡ (begun ++ next ∷ []) ++ (records ++ whole_records [] more))
        → ◌≡◌ {A = Result ManifestReading ℕ} (elim (cond follows (cond ends (group_closed closed) (Ok (reading_of named (begun ++ next ∷ [])))) (Err next.at)) [ Err fault ↦ Err fault | Ok reading ↦ read_records reading records ]) (Ok (reading_of after []))
        → cond ends (begun ++ next ∷ whole_records [] (records ++ more)) (whole_records (begun ++ next ∷ []) (records ++ more)) ≡ begun ++ next ∷ (records ++ whole_records [] more)
    go false ends closed inner outer e = absurd (cc e)
    go true true (Err at) inner outer e = absurd (cc e)
    go true true (Ok other) inner outer e = ap (λ (l : List GroupRecord). begun ++ next ∷ l) (inner other e)
    go true false closed inner outer e = outer e ∙ assoc_one begun next (records ++ whole_records [] more)

not_last : (left n : ℕ) → left ≡ n + 1 → (left == 0) ≡ false
not_last left n is = ap (λ (m : ℕ). m == 0) is ∙ never n
  where
    never : (n : ℕ) → ((n + 1) == 0) ≡ false
    never n = grind arith

-- one record that isn't the last of its group
begun_more : (begun : List GroupRecord) (one : GroupRecord) (more : List GroupRecord) (n : ℕ) → one.left ≡ n + 1 → whole_records begun (one ∷ more) ≡ whole_records (begun ++ one ∷ []) more
begun_more begun one more n is = ap (λ (b : Bool). cond b (begun ++ one ∷ whole_records [] more) (whole_records (begun ++ one ∷ []) more)) (not_last one.left n is)

-- a group that is begun
begun_none : (begun front : List GroupRecord) (next : GroupRecord) (rest : List GroupRecord) → CountsDown (front ++ next ∷ rest) → whole_records begun front ≡ []
begun_none begun [] next rest counts = refl
begun_none begun (one ∷ []) next rest counts = begun_more begun one [] next.left counts.0
begun_none begun (one ∷ two ∷ front) next rest counts = begun_more begun one (two ∷ front) two.left counts.0 ∙ begun_none (begun ++ one ∷ []) (two ∷ front) next rest counts.1

-- a group
all_whole : (begun group : List GroupRecord) → CountsDown group → whole_records begun group ≡ begun ++ group
all_whole begun [] counts = absurd counts
all_whole begun (one ∷ []) counts = ap (λ (b : Bool). cond b (begun ++ one ∷ []) []) (ap (λ (m : ℕ). m == 0) counts)
all_whole begun (one ∷ two ∷ more) counts = begun_more begun one (two ∷ more) two.left counts.0 ∙ all_whole (begun ++ one ∷ []) (two ∷ more) counts.1 ∙ assoc_one begun one (two ∷ more)

pub edits_append : (xs ys : List GroupRecord) → edits_of (xs ++ ys) ≡ edits_of xs ++ edits_of ys
edits_append [] ys = refl
edits_append (x ∷ xs) ys = ap (λ (l : List Edit). x.edits ++ l) (edits_append xs ys) ∙ sym (append_assoc x.edits (edits_of xs) (edits_of ys))

-- what is replayed of records that are right
replayed_is : (records : List GroupRecord) (reading : ManifestReading) (whole : List GroupRecord) → read_records manifest_reading_none records ≡ Ok reading → whole_records [] records ≡ whole → manifest_replayed (LogFound records None) ≡ Ok (edits_of whole)
replayed_is records reading whole right is = ap (λ r. edits_or_damage records None r) right ∙ ap (λ (l : List GroupRecord). replied l) is
  where
    replied : List GroupRecord → Result (List Edit) ℕ
    replied l = Ok (edits_of l)

pub group_atomic : GroupIsAtomic
group_atomic named after before group front [] right is cut =
    let same : front ≡ group = sym (cut ∙ append-nil front) in
    inr (ap (λ (l : List GroupRecord). manifest_replayed (LogFound (before ++ l) None)) same
    ∙ replayed_is (before ++ group) (reading_of after []) (before ++ group) (whole_group named after before group right is)
    (whole_behind [] before group manifest_reading_none.named named right ∙ ap (λ (l : List GroupRecord). before ++ l) (all_whole [] group is.counts))
    ∙ ap (λ (l : List Edit). replied l) (edits_append before group))
  where
    replied : List Edit → Result (List Edit) ℕ
    replied l = Ok l
group_atomic named after before group front (next ∷ rest) right is cut =
    let down : IsGroup named after (front ++ next ∷ rest) = subst (λ (l : List GroupRecord). IsGroup named after l) cut is in
    inl (replayed_is (before ++ front) (reading_of named front) before (begun_group named after before front rest next right down)
    (whole_behind [] before front manifest_reading_none.named named right ∙ ap (λ (l : List GroupRecord). before ++ l) (begun_none [] front next rest down.counts) ∙ append-nil before))
