use Rattle.std.proofs.Common.{List, ℕ, map, option_map, sym, ap, ◌∙◌}
use Rattle.std.specs.Borrow.{Bor}
use Rattle.stim_read.specs.Parts.{has_only, has_only_of, members_of}
use Rattle.stim_read.proofs.SeenLemmas.{members_seen}
use Rattle.stim_read.proofs.given.is_object_of.Goals as goal

pub returns-in-Some : goal.returns-in-Some
returns-in-Some c =
    let keys = map (λ (k : Bor (List ℕ)). k.now) c.args.keys.now in
    c.has_only.ensures ∙ ap (has_only keys) (sym (members_seen c.in-Some.members.now.entries)) ∙ ap (λ o. has_only_of keys (option_map members_of o)) c.in-Some.ensures

pub returns-in-None : goal.returns-in-None
returns-in-None c =
    let keys = map (λ (k : Bor (List ℕ)). k.now) c.args.keys.now in
    ap (λ o. has_only_of keys (option_map members_of o)) c.in-None.ensures
