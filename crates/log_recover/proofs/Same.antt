-- What is opened, as contents.
use Rattle.std.proofs.Common.{◌≡◌, Bool, List, ap}
use Rattle.std.specs.Prelude.{Result, Ok, Err, IfErr, IfOk, OnOk}
use Rattle.st_device.specs.Disk.{Image}
use Rattle.st_wal.specs.declared.logged.Logged.{Logged}
use Rattle.log_recover.specs.Contents.{SameContents, opened_contents, opened_or_damage}
use Rattle.log_recover.specs.Opens.{Damage, IsDamageOf, opens}
use Rattle.log_recover.specs.declared.fault.OpenFault.{OpenFault}
use Rattle.log_recover.specs.declared.fault.OpenFault.TheVariants.{Damaged, DiskFault, OutOfMemory}

pub same_contents : (image other : Image) → opens image ≡ opens other → SameContents image other
same_contents image other same behind = ap (opened_or_damage behind) same

pub opened_ok : (found : Result (List Logged) Damage) (ops : List Logged) (behind : Bool) → found ≡ Ok ops → opened_or_damage behind found ≡ Ok (opened_contents behind ops)
opened_ok found ops behind is = ap (opened_or_damage behind) is

pub opened_damage : (found : Result (List Logged) Damage) (fault : OpenFault) (behind : Bool) → IsDamageOf found fault → IsDamageOf (opened_or_damage behind found) fault
opened_damage found (Damaged file at) behind is = ap (opened_or_damage behind) is
opened_damage found DiskFault behind is = tt
opened_damage found OutOfMemory behind is = tt

pub if_ok : {T E : Type 0} (P Q : T → Type 0) (r : Result T E) → ((x : T) → P x → Q x) → IfOk r P → IfOk r Q
if_ok P Q (Ok x) f p = f x p
if_ok P Q (Err e) f p = tt

pub if_err : {T E : Type 0} (P Q : E → Type 0) (r : Result T E) → ((e : E) → P e → Q e) → IfErr r P → IfErr r Q
if_err P Q (Ok x) f p = tt
if_err P Q (Err e) f p = f e p

pub on_ok : {T E P Q : Type 0} (r : Result T E) → (P → Q) → OnOk r P → OnOk r Q
on_ok (Ok x) f p = f p
on_ok (Err e) f p = tt
