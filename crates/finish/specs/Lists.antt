-- The initiators and the lengths of the ends of leaking lists.
use Rattle.std.specs.Prelude.{ℕ, ◌+◌, ◌≡◌, refl, Bool, true, false, cond, [], ◌∷◌, ◌++◌, length}
use Rattle.matrix.specs.declared.Name.{Name}
use Rattle.matrix.specs.declared.Name.TheVariants.{Subject}
use Rattle.matrix.specs.declared.Form.{Form}
use Rattle.matrix.specs.declared.Form.TheVariants.{Starred}
use Rattle.matrix.specs.declared.Right.{Right}
use Rattle.question.specs.Leaks.{Untrusted}
use Rattle.route.specs.Parts.{creates, creates_name, passes, finish}

-- every command is begun by v
pub create_untrusted : (trusted : ℕ → Bool) (v : ℕ) (o : Name) → trusted v ≡ false → Untrusted trusted (creates_name v o ∷ [])
create_untrusted trusted v (Subject a) h = (h, tt)
create_untrusted trusted v (Name.Plain a) h = (h, tt)

pub finish_untrusted : (trusted : ℕ → Bool) (v s : ℕ) (o : Name) (x : Right) (absent again : Bool) → trusted v ≡ false
    → Untrusted trusted (finish v s o x absent again)
finish_untrusted trusted v s o x true true h = (h, (h, (h, (h, tt))))
finish_untrusted trusted v s o x false true h = (h, (h, (h, tt)))
finish_untrusted trusted v s o x true false h = (h, (h, tt))
finish_untrusted trusted v s o x false false h = (h, tt)

pub pass_untrusted : (trusted : ℕ → Bool) (i s : ℕ) (o : Name) (k : ℕ) (g : Form) (absent : Bool) → trusted i ≡ false
    → Untrusted trusted (cond absent (creates i s ∷ []) [] ++ (passes i s o k g ∷ []))
pass_untrusted trusted i s o k Form.Plain true h = (h, (h, tt))
pass_untrusted trusted i s o k Form.Plain false h = (h, tt)
pass_untrusted trusted i s o k Starred true h = (h, (h, tt))
pass_untrusted trusted i s o k Starred false h = (h, tt)

-- the number of commands
pub finish_length : (v s : ℕ) (o : Name) (x : Right) (absent again : Bool)
    → length (finish v s o x absent again) ≡ cond again 2 0 + cond absent 2 1
finish_length v s o x true true = refl
finish_length v s o x false true = refl
finish_length v s o x true false = refl
finish_length v s o x false false = refl

pub pass_length : (i s : ℕ) (o : Name) (k : ℕ) (g : Form) (absent : Bool)
    → length (cond absent (creates i s ∷ []) [] ++ (passes i s o k g ∷ [])) ≡ cond absent 2 1
pass_length i s o k g true = refl
pass_length i s o k g false = refl
