use Rattle.std.proofs.Common.{◌≡◌, ◌++◌, ◌≤◌, drop, map, replicate}
use Rattle.hw_names.specs.Name.{text_of}
use Rattle.hw_names.specs.declared.names.NameId.{NameId}
use Rattle.net_core.specs.declared.net.Guard.{size-Guard}
use Rattle.net_core.specs.Guard.{guard_tree, guards_of}
use Rattle.net_core.specs.Numbers.{GuardHasNumbers}
use Rattle.ver_print.specs.Values.{guard_text, guards_text}
use Rattle.ver_print.proofs.guards.+guards.Given as goal

-- what is there, the guard that is left and the brackets that are open are the whole guard
abbrev pub invariant-put_guard-loop-inner : goal.invariant-put_guard-loop-inner
invariant-put_guard-loop-inner l =
    record {
      depth : size-Guard NameId l.inner ≤ size-Guard NameId l.guard;
      numbers : GuardHasNumbers l.names l.inner;
      text : l.out.items ++ (guard_text (guard_tree (text_of l.names) l.inner) ++ replicate l.count 41) ≡ l.initial.out.items ++ guard_text (guard_tree (text_of l.names) l.guard);
    }

-- what is there and the guards that are left are the whole list
abbrev pub invariant-put_guards-loop-place : goal.invariant-put_guards-loop-place
invariant-put_guards-loop-place l =
    l.out.items ++ guards_text l.mark (guards_of (map (guard_tree (text_of l.names)) (drop l.place l.guards)))
    ≡ l.initial.out.items ++ guards_text l.mark (guards_of (map (guard_tree (text_of l.names)) l.guards))
