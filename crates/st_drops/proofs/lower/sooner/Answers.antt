use Rattle.std.proofs.Common.{List, ℕ, ◌++◌, sym, subst, ◌∙◌}
use Rattle.st_base.specs.declared.entry.KeyRange.{KeyRange}
use Rattle.st_drops.specs.declared.cover.Cover.{Cover}
use Rattle.st_drops.specs.declared.cover.Cover.TheVariants.{Through, NoneBefore, Never}
use Rattle.st_drops.specs.Covers.{EndBelow, TellsCover}
use Rattle.st_drops.proofs.Covers.{back_begins, both_end, first_begins, front_begins, lies_back, second_begins}
use Rattle.st_drops.proofs.lower.sooner.Goals as goal

behind : (key : List ℕ) (front back : List KeyRange) (other : Cover) → EndBelow front key → TellsCover back key other → TellsCover (front ++ back) key other
behind key front back (Through last) ends lies = lies_back key front back last.now lies
behind key front back (NoneBefore first) ends begins = back_begins key front back first.now ends begins
behind key front back Never ends more = both_end key front back ends more

pub returns-in-Never : goal.returns-in-Never
returns-in-Never c = λ key front back one other. behind key front back c.args.other (subst (λ (cover : Cover). TellsCover front key cover) c.in-Never.is one) other

pub returns-in-Never-other : goal.returns-in-Never-other
returns-in-Never-other c = λ key front back one other.
    subst (λ (cover : Cover). TellsCover (front ++ back) key cover) (sym c.in-NoneBefore.is)
    (front_begins key front back c.in-NoneBefore.first.now (subst (λ (cover : Cover). TellsCover front key cover) c.in-NoneBefore.is one) (subst (λ (cover : Cover). TellsCover back key cover) c.in-Never-other.is other))

pub returns-then-below : goal.returns-then-below
returns-then-below c = λ key front back one other.
    subst (λ (cover : Cover). TellsCover (front ++ back) key cover) (sym c.in-NoneBefore-other.is)
    (second_begins key front back c.in-NoneBefore.first.now c.in-NoneBefore-other.second.now
    (subst (λ (cover : Cover). TellsCover front key cover) c.in-NoneBefore.is one) (subst (λ (cover : Cover). TellsCover back key cover) c.in-NoneBefore-other.is other)
    (sym c.below.ensures ∙ c.if-below.true))

pub returns-else-below : goal.returns-else-below
returns-else-below c = λ key front back one other.
    subst (λ (cover : Cover). TellsCover (front ++ back) key cover) (sym c.in-NoneBefore.is)
    (first_begins key front back c.in-NoneBefore.first.now c.in-NoneBefore-other.second.now
    (subst (λ (cover : Cover). TellsCover front key cover) c.in-NoneBefore.is one) (subst (λ (cover : Cover). TellsCover back key cover) c.in-NoneBefore-other.is other)
    (sym c.below.ensures ∙ c.if-below.false))
