use Rattle.std.proofs.Common.{◌≡◌, drop, cond}
use Rattle.net_text.specs.Names.{is_path, is_rest_of_path}
use Rattle.net_text.proofs.words.is_path.Given as goal

abbrev pub invariant-loop-byte : goal.invariant-loop-byte
invariant-loop-byte l = cond l.begins (is_path (drop l.byte-index l.word)) (is_rest_of_path (drop l.byte-index l.word)) ≡ is_path l.word
