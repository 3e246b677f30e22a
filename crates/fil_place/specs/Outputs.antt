-- The names of a signature's outputs. This project's.
use Rattle.std.specs.Prelude.{List, map}
use Rattle.hw_names.specs.Name.{Text}
use Rattle.fil_ast.specs.Signature.{SigPort, Signature}

abbrev pub output_names : Signature → List Text
output_names sig = map (λ (p : SigPort). p.name) sig.outs
