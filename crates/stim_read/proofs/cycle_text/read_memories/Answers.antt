use Rattle.std.proofs.Common.{◌≡◌, Global, Vec, List, Option, Some, IfOk, map, option_map, sym, ap, subst, ◌∙◌}
use Rattle.std.specs.Borrow.{Bor}
use Rattle.serde_json.specs.View.{view}
use Rattle.serde_json.specs.declared.value.Value.{Value}
use Rattle.stim_read.specs.Parts.{◌>>=◌, each, members_of}
use Rattle.stim_read.specs.CycleText.{Words, words_by, words_seen, memories_in}
use Rattle.stim_read.specs.declared.cycle_text.MemoryWords.{MemoryWords}
use Rattle.stim_read.proofs.SeenLemmas.{members_seen}
use Rattle.stim_read.proofs.cycle_text.read_memories.Goals as goal

pub returns-in_default : goal.returns-in_default
returns-in_default c =
    ap (λ (xs : List MemoryWords). Some (map words_seen xs)) c.new.ensures.items
    ∙ ap (λ (o : Option (Bor Value)). memories_in c.args.version (option_map (λ v. view v.now) o)) (sym c.in_default.is)

pub returns-in-Some-as_object : goal.returns-in-Some-as_object
returns-in-Some-as_object c =
    let f = words_by c.args.version in
    let e = ap (each f) (sym (members_seen c.in-Some-as_object.members.now.entries)) ∙ ap (λ o. option_map members_of o >>= each f) c.in-Some-as_object.ensures
    ∙ ap (λ (o : Option (Bor Value)). memories_in c.args.version (option_map (λ v. view v.now) o)) (sym c.in-Some.is) in
    subst (λ (m : Option (List Words)). IfOk c.memories_of.result (λ o. option_map (λ (v : Vec MemoryWords Global). map words_seen v.items) o ≡ m)) e c.memories_of.ensures

pub returns-in-None : goal.returns-in-None
returns-in-None c =
    ap (λ o. option_map members_of o >>= each (words_by c.args.version)) c.in-None.ensures
    ∙ ap (λ (o : Option (Bor Value)). memories_in c.args.version (option_map (λ v. view v.now) o)) (sym c.in-Some.is)
