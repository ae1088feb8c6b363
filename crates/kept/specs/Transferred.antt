-- Valid is kept by a transfer of own: i, who owns o, hands it to s. No name vanishes by it.
use Rattle.std.specs.Prelude.{ℕ, true, false}
use Rattle.matrix.specs.declared.Name.{Name}
use Rattle.matrix.specs.declared.Right.TheVariants.{Own}
use Rattle.matrix.specs.State.{State, put}

-- i hands its ownership of o to s
abbrev pub handed : State → ℕ → ℕ → Name → State
handed S i s o = put Own s o true (put Own i o false S)
