-- Names of the registers and wires of a plan are names of Calyx's grammar.
use Rattle.std.proofs.Common.{ℕ, ◌++◌, refl}
use Rattle.std.specs.Prelude.{codes}
use Rattle.std.specs.Fmt.{decimal}
use Rattle.hw_names.specs.Name.{Text}
use Rattle.cal_ast.specs.Written.{IsCalName}
use Rattle.cal_token.specs.inside.Tokens.{Again, Ended, Going, Starting, Token}
use Rattle.cal_group.proofs.WrittenNames.{HasNameBytes, decimal_bytes, made_name}
use Rattle.cal_lower.specs.inside.Pieces.{Kind, Register, Wire, acts_name, busy_name, done_name, ends_name, made_by, over_name, start_name, token_name}

pub token_named : (t : Token) → IsCalName (token_name t)
token_named (Going k) = made_name (codes "goes" ++ decimal k) (decimal_bytes k)
token_named (Starting k) = made_name (codes "next" ++ decimal k) (decimal_bytes k)
token_named (Ended k) = made_name (codes "past" ++ decimal k) (decimal_bytes k)
token_named (Again k) = made_name (codes "turn" ++ decimal k) (decimal_bytes k)

pub ends_named : (k : ℕ) → IsCalName (ends_name k)
ends_named k = made_name (codes "ends" ++ decimal k) (decimal_bytes k)

pub acts_named : (group : Text) → HasNameBytes group → IsCalName (acts_name group)
acts_named group are = made_name (codes "acts$" ++ group) are

pub done_named : (group : Text) → HasNameBytes group → IsCalName (done_name group)
done_named group are = made_name (codes "done$" ++ group) are

pub start_named : IsCalName start_name
start_named = made_name (codes "start") refl

pub busy_named : IsCalName busy_name
busy_named = made_name (codes "busy") refl

pub over_named : IsCalName over_name
over_named = made_name (codes "over") refl

pub made_named : (kind : Kind) → IsCalName (made_by kind)
made_named Wire = ((refl, refl), refl)
made_named Register = ((refl, refl), refl)
