-- What decoding answers.
use Rattle.std.specs.Prelude.{ℕ, Bool, true, false, cond, ◌&&◌, eqb, ltb, Option, Some, None, Result, Ok, Err}
use Rattle.matrix.specs.declared.Act.{Act}
use Rattle.matrix.specs.declared.Kind.{Kind}
use Rattle.matrix.specs.declared.Kind.TheVariants.{AnyName, PlainName}
use Rattle.matrix.specs.declared.Refusal.{Refusal}
use Rattle.matrix.specs.declared.Rule.{Rule}
use Rattle.matrix.specs.declared.Form.{Form}
use Rattle.matrix.specs.declared.Form.TheVariants.{Plain, Starred}
use Rattle.matrix.specs.declared.Fields.{Fields}
use Rattle.matrix.specs.declared.Shape.{Shape}
use Rattle.matrix.specs.Names.{name_of}
use Rattle.matrix.specs.Commands.{known, rule_of, fields_fit}
use Rattle.matrix.specs.Shape.{basics_of}
use Rattle.matrix.specs.Calls.{names_fit}
use Rattle.decoding.specs.declared.Decoded.{Decoded}

-- plain for the first code of a pair, starred for the second
abbrev pub form_from : ℕ → ℕ → Form
form_from code first = cond (eqb code first) Plain Starred

-- the rows over a basic right, over another right, and of a plain object or a subject that is created or destroyed
abbrev pub over_basic : Act → Rule
over_basic act = record { s = true; o = true; k = true; kind = AnyName; act = act }

abbrev pub over_name : Kind → Act → Rule
over_name kind act = record { s = true; o = true; k = false; kind = kind; act = act }

abbrev pub of_object : Act → Rule
of_object act = record { s = false; o = true; k = false; kind = PlainName; act = act }

abbrev pub of_subject : Act → Rule
of_subject act = record { s = true; o = false; k = false; kind = AnyName; act = act }

-- the row of a code, if it is one of the table's
unfoldable pub ruled_of : ℕ → ℕ → Option Rule
ruled_of code k = cond (known code) (Some (rule_of code k)) None

-- a basic right's number is one of so many where the command uses it, and else 0
abbrev pub basic_fits : ℕ → Bool → ℕ → Bool
basic_fits basics used k = cond used (ltb k basics) (eqb k 0)

-- 6, then 7, then the decoded command
unfoldable pub decoded_of : Shape → Fields → Result Decoded Refusal
decoded_of f c =
    cond (known c.code)
    (cond (names_fit f c && fields_fit (basics_of f) (rule_of c.code c.k) c.s c.o c.k)
    (Ok (record {
      command = record { i = c.i; s = c.s; o = name_of f.n c.o; act = (rule_of c.code c.k).act };
      kind = (rule_of c.code c.k).kind;
    }))
    (Err Refusal.Bounds))
    (Err Refusal.Code)
