use Rattle.std.proofs.Common.{◌≤◌, IfSome, rules, refl, ap, subst, ◌∙◌, inl, inr, string_bytes}
use Rattle.std.proofs.lemmas.List.Elements.{All-set}
use Rattle.hw_io.specs.declared.disk_files.DiskFile.{DiskFile}
use Rattle.hw_io.specs.Faults.{Rose}
use Rattle.hw_io.specs.Reading.{IsPiece}
use Rattle.hw_io.specs.inside.DiskFiles.{IsRightlyOpen}
use Rattle.hw_io.proofs.DiskFilesLemmas.{name_in, count_in, looked_up}
use Rattle.hw_io.proofs.EntryLemmas.{name_at_place, known_where_found, unknown_without_place, names_raised, others_raised, count_raised, count_at_place}
use Rattle.hw_io.proofs.disk_files.DiskFilesFiles.piece.Goals as goal

pub returns-in_default-clause-failed : goal.returns-in_default-clause-failed
returns-in_default-clause-failed g c =
    let nowhere = looked_up c.deref.ensures.value c.as_bytes.ensures.value c.place_of.ensures c.in_default.is in
    rw (← c.self.view_is) (inl (unknown_without_place name_in c.self.inside.held.items c.args.name.now nowhere))

pub returns-in_default-read_at-clause-kept : goal.returns-in_default-read_at-clause-kept
returns-in_default-read_at-clause-kept g c =
    let at = looked_up c.deref.ensures.value c.as_bytes.ensures.value c.place_of.ensures c.in-Some.is in
    let held = c.self.inside.held.items in
    let x = c.index_mut-file.result.now in
    let y : DiskFile g.row.D-Open.Denot = record { name = c.read_at.new.file.name; faults = c.raised-file.result; opened = c.read_at.new.file.opened } in
    let here = c.index_mut-file.ensures.value in
    let alike = ap string_bytes c.in_default-read_at.ensures.name in
    let more = subst (λ count. count ≤ c.raised-file.result) c.in_default-read_at.ensures.faults c.raised-file.ensures.never_falls in
    rw (← c.self.view_is) (record {
      names_kept = names_raised name_in held c.in-Some.place x y here alike;
      contents_kept = λ _. refl;
      others_kept = λ other apart. others_raised name_in count_in held c.args.name.now other c.in-Some.place x y at here alike apart;
      never_falls = rw (count_raised name_in count_in held c.args.name.now c.in-Some.place x y at here alike, count_at_place name_in count_in held c.args.name.now c.in-Some.place x at here) more;
    })

pub returns-in_default-read_at-clause-failed : goal.returns-in_default-read_at-clause-failed
returns-in_default-read_at-clause-failed g c =
    let at = looked_up c.deref.ensures.value c.as_bytes.ensures.value c.place_of.ensures c.in-Some.is in
    let held = c.self.inside.held.items in
    let x = c.index_mut-file.result.now in
    let y : DiskFile g.row.D-Open.Denot = record { name = c.read_at.new.file.name; faults = c.raised-file.result; opened = c.read_at.new.file.opened } in
    let here = c.index_mut-file.ensures.value in
    let alike = ap string_bytes c.in_default-read_at.ensures.name in
    let rose = subst (λ count. Rose count c.raised-file.result) c.in_default-read_at.ensures.faults c.raised-file.ensures.rose in
    rw (← c.self.view_is) (inr (rw (count_raised name_in count_in held c.args.name.now c.in-Some.place x y at here alike, count_at_place name_in count_in held c.args.name.now c.in-Some.place x at here) rose))

pub invariant_of-self-2 : goal.invariant_of-self-2
invariant_of-self-2 g c =
    All-set (IsRightlyOpen (g.D.Disk.content c.self.inside.disk) g.D.Open.Read.remaining) c.self.inside.held.items c.in-Some.place c.read_at.new.file c.in-Ok.ensures.right c.self.invariant

pub returns-clause-kept : goal.returns-clause-kept
returns-clause-kept g c =
    let at = looked_up c.deref.ensures.value c.as_bytes.ensures.value c.place_of.ensures c.in-Some.is in
    let held = c.self.inside.held.items in
    let x = c.index_mut-file.result.now in
    let y = c.read_at.new.file in
    let here = c.index_mut-file.ensures.value in
    let alike = ap string_bytes c.in-Ok.ensures.name in
    let same = subst (λ count. count ≤ y.faults) c.in-Ok.ensures.faults (search rules) in
    rw (← c.self.view_is) (record {
      names_kept = names_raised name_in held c.in-Some.place x y here alike;
      contents_kept = λ _. refl;
      others_kept = λ other apart. others_raised name_in count_in held c.args.name.now other c.in-Some.place x y at here alike apart;
      never_falls = rw (count_raised name_in count_in held c.args.name.now c.in-Some.place x y at here alike, count_at_place name_in count_in held c.args.name.now c.in-Some.place x at here) same;
    })

pub returns-clause-known : goal.returns-clause-known
returns-clause-known g c =
    let at = looked_up c.deref.ensures.value c.as_bytes.ensures.value c.place_of.ensures c.in-Some.is in
    rw (← c.self.view_is) (known_where_found name_in c.self.inside.held.items c.args.name.now c.in-Some.place at)

pub returns-clause-told : goal.returns-clause-told
returns-clause-told g c =
    let at = looked_up c.deref.ensures.value c.as_bytes.ensures.value c.place_of.ensures c.in-Some.is in
    let here = c.index_mut-file.ensures.value in
    let named = ap name_in here ∙ name_at_place name_in c.self.inside.held.items c.args.name.now c.in-Some.place c.index_mut-file.result.now at in
    let content = g.D.Disk.content c.self.inside.disk in
    rw (← c.self.view_is) (subst (λ name. IfSome (content name) (λ bytes. IsPiece bytes c.args.at c.read_at.new.buf c.in-Ok.count)) named c.in-Ok.ensures.told)
