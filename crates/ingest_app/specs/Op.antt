-- Which commands are served, and which refusals name a family.
use Rattle.std.specs.Prelude.{ℕ, Bool, true, false, not, ⊤, List, [], ◌∷◌, slice_get, Option, Some, None}
use Rattle.st_model.specs.declared.command.Command.{Command}
use Rattle.st_model.specs.declared.command.Command.TheVariants.{Write, Get}
use Rattle.st_model.specs.declared.refusal.Refusal.{Refusal}
use Rattle.st_model.specs.declared.refusal.Refusal.TheVariants.{UnknownFamily}
use Rattle.st_model.specs.declared.reply.Reply.{Reply}
use Rattle.st_model.specs.declared.reply.Reply.TheVariants.{Written, Found, Nothing, Long, Refused}
use Rattle.st_model.specs.Causes.{is_input_fault}
use Rattle.log_engine.specs.Op.{IsWrite, strange_names, strangers}

-- the command is one of those that are served: a write within its limits, or a read of one key
abbrev pub IsServed : Command → Type 0
IsServed (Write batch) = IsWrite batch.ops
IsServed (Get family key) = ⊤
IsServed other = ⊥

-- whether the reply is one to such a command; no file of the inputs is read for it
abbrev pub is_served : Reply → Bool
is_served (Written number) = true
is_served (Found value) = true
is_served Nothing = true
is_served Long = true
is_served (Refused refusal) = not (is_input_fault (Refused refusal))
is_served other = false

-- the first family of a command that isn't `default`
abbrev pub stranger_of : Command → Option (List ℕ)
stranger_of (Write batch) = slice_get (strangers batch.ops) 0
stranger_of (Get family key) = slice_get (strange_names (family ∷ [])) 0
stranger_of other = None

-- the family that a refusal says is unknown
abbrev pub refused_name : Refusal → Option (List ℕ)
refused_name (UnknownFamily name) = Some name
refused_name other = None

-- the family of which a reply says so
abbrev pub refused_family : Reply → Option (List ℕ)
refused_family (Refused refusal) = refused_name refusal
refused_family other = None
