use Rattle.std.proofs.Common.{◌<◌, length, arith, refl}
use Rattle.hw_io.proofs.DiskFilesLemmas.{names_added, no_fault_added, none_opened_added}
use Rattle.hw_io.proofs.disk_files.DiskFiles.new.Goals as goal

pub loop-name-preserved : goal.loop-name-preserved
loop-name-preserved g c =
    let within : c.loop-name.name-index < length c.args.names.now = omega (arith, c.loop-name-test.true) in
    record {
      known = names_added c.loop-name.held.items c.push.new.self.items c.args.names.now c.loop-name.name-index _ _ within c.in_ok-push.ensures.items c.loop-name.invariant.known c.in_ok-name.ensures.ok;
      no_fault = λ name. rw c.in_ok-push.ensures.items (no_fault_added c.loop-name.held.items _ name refl (c.loop-name.invariant.no_fault name));
      none_opened = rw c.in_ok-push.ensures.items (none_opened_added c.loop-name.held.items _ refl c.loop-name.invariant.none_opened);
    }
