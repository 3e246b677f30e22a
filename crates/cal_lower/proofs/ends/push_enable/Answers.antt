use Rattle.std.proofs.Common.{[], ◌∷◌, ◌++◌, refl, sym, subst, ◌∙◌}
use Rattle.std.proofs.lemmas.Result.{on_ok_weaker}
use Rattle.hw_names.proofs.NameLemmas.{text_of-KeepsTexts, text_of-slice_get}
use Rattle.hw_names.specs.Name.{Text, text_of}
use Rattle.net_core.specs.Guard.{Negates}
use Rattle.cal_ast.specs.Actors.{GroupNamed}
use Rattle.cal_ast.specs.Plan.{Enables}
use Rattle.cal_token.specs.inside.Tokens.{Going}
use Rattle.cal_lower.specs.inside.Parts.{ends_wire}
use Rattle.cal_lower.specs.inside.Pieces.{Register, both, done_name, either, has_token, piece, reads, shown, token_name}
use Rattle.cal_lower.specs.inside.Shown.{ShowsActs, more_of, one_when}
use Rattle.cal_lower.proofs.GatherLemmas.{enable_shown, port_later}
use Rattle.cal_lower.proofs.GrownLemmas.{acts_kept, pieces_kept}
use Rattle.cal_lower.proofs.StableLemmas.{KeepsTexts-trans, id_number}
use Rattle.cal_lower.proofs.ends.push_enable.Goals as goal

pub text-requires : goal.text-requires
text-requires c =
    let n0 = c.args.labels.now.names in
    let n1 = c.port.new.self.names in
    let n2 = c.enabled.new.labels.names in
    let n3 = c.push.new.labels.names in
    let n4 = c.enabled-2.new.labels.names in
    let n5 = c.push-2.new.labels.names in
    let n6 = c.enabled-3.new.labels.names in
    let k02 = KeepsTexts-trans n0 n1 n2 c.port.ensures.kept.names c.enabled.ensures.kept.names in
    let k04 = KeepsTexts-trans n0 n3 n4 (KeepsTexts-trans n0 n2 n3 k02 c.push.ensures.kept.names) c.enabled-2.ensures.kept.names in
    let k06 = KeepsTexts-trans n0 n5 n6 (KeepsTexts-trans n0 n4 n5 k04 c.push-2.ensures.kept.names) c.enabled-3.ensures.kept.names in
    id_number n0 n6 k06 c.args.group c.requires.group

pub returns-clause-made : goal.returns-clause-made
returns-clause-made c = λ begin made begin_is are.
    let n0 = c.args.labels.now.names in
    let n1 = c.port.new.self.names in
    let n2 = c.enabled.new.labels.names in
    let n3 = c.push.new.labels.names in
    let n4 = c.enabled-2.new.labels.names in
    let n5 = c.push-2.new.labels.names in
    let n6 = c.enabled-3.new.labels.names in
    let k01 = c.port.ensures.kept.names in
    let k12 = c.enabled.ensures.kept.names in
    let k23 = c.push.ensures.kept.names in
    let k34 = c.enabled-2.ensures.kept.names in
    let k45 = c.push-2.ensures.kept.names in
    let k56 = c.enabled-3.ensures.kept.names in
    let k02 = KeepsTexts-trans n0 n1 n2 k01 k12 in
    let k03 = KeepsTexts-trans n0 n2 n3 k02 k23 in
    let k05 = KeepsTexts-trans n0 n4 n5 (KeepsTexts-trans n0 n3 n4 k03 k34) k45 in
    let k06 = KeepsTexts-trans n0 n5 n6 k05 k56 in
    let k14 = KeepsTexts-trans n1 n3 n4 (KeepsTexts-trans n1 n2 n3 k12 k23) k34 in
    let k = c.args.at.number in
    let at = c.args.at.start in
    let id = c.args.group in
    let name = text_of n0 id in
    let start = reads begin in
    let acting = either start (has_token (Going k)) in
    let bit = shown (done_name name) in
    let ends = both acting (reads bit) in
    let going = both acting (Negates (reads bit)) in
    let done_is = c.in_ok-done.ensures.port in
    let wire = ends_wire k (Enables (GroupNamed name)) start in
    let list = made.pieces ++ wire ∷ [] in
    let parts = c.args.parts.now in
    let acts = c.enable.new.self in
    let first_acting = c.in_ok-acting.ensures.guard begin (port_later n0 n1 k01 begin at begin_is) in
    let first_done = c.in_ok-reads.ensures n2 bit (port_later n1 n2 k12 bit c.in_ok-done.done done_is) in
    let first_drive = c.one_when-drive.ensures n2 ends (c.in_ok-ends.ensures n2 acting (reads bit) first_acting first_done) in
    let first = c.in_ok-push.ensures.pushed made.pieces (one_when ends) (pieces_kept n0 n2 made.pieces parts.pieces k02 are.pieces) first_drive in
    let second_acting = c.in_ok-acting-2.ensures.guard begin (port_later n0 n3 k03 begin at begin_is) in
    let second_drive = c.one_when-goes_on.ensures n4 going (c.in_ok-unless.ensures n4 acting bit second_acting (port_later n1 n4 k14 bit c.in_ok-done.done done_is)) in
    let second = c.in_ok-push-2.ensures.pushed list (one_when going) (pieces_kept n3 n4 list c.push.new.self k34 first) second_drive in
    let last = pieces_kept n5 n6 _ c.push-2.new.self k56 second in
    let third_acting = c.in_ok-acting-3.ensures.guard begin (port_later n0 n5 k05 begin at begin_is) in
    let before = acts_kept n0 n6 made.enabled made.tested parts.acts k06 are.acts in
    let text = sym (text_of-slice_get n6 id c.text.result.now c.text.ensures) ∙ text_of-KeepsTexts n0 n6 id k06 c.requires.group in
    let W : Text → Type 0 = λ t. ShowsActs n6 (more_of made.enabled t acting) made.tested acts in
    let more = λ (m : W c.text.result.now).
    enable_shown n6 made c.push-2.new.self acts k start name wire (piece Register (token_name (Going k)) going) refl last (subst W text m) in
    on_ok_weaker c.enable.result more (c.enable.ensures.wanted n6 made.enabled made.tested acting before third_acting)
