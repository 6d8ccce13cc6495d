-- A line that asks something, and is cut short.
use Rattle.std.proofs.Common.{◌≡◌, List, ℕ, [], Option, Some, inr, refl, sym, ◌∙◌, subst, append-nil}
use Rattle.policy.specs.Policy.{Declared}
use Rattle.world.specs.States.{Joined}
use Rattle.script.specs.declared.command.Command.{Command}
use Rattle.script.specs.declared.fault.RunFault.{RunFault}
use Rattle.script.specs.declared.fault.RunFault.TheVariants.{Script, Watcher}
use Rattle.script.specs.declared.fault.ScriptFault.TheVariants.{OutOfMemory, BadLine, Read, Write}
use Rattle.script.specs.declared.lines.Line.TheVariants as lines
use Rattle.script.specs.Expansions.{does}
use Rattle.script.specs.Runs.{Cut, IsCutBy, Telling, Told, Watching, by_line, cuts_as, law, stands_for}

pub cut_asked : {F : Type 0} (tells : Telling) (watcher : Watching) (later : List Declared) (old new : Joined) (line : List ℕ) (command : Command) (told : Told) (before after : List ℕ) (fault : RunFault F) →
    stands_for later old line ≡ Some (lines.Asks command) → does later command old told new → after ≡ before → IsCutBy watcher.may_fail fault →
    Cut (law (by_line tells) watcher later) old new line before after fault
unfolding law
cut_asked tells watcher later old new line command told before after (Script OutOfMemory) is done same may =
    ([], same ∙ sym (append-nil before), inr (subst (λ found. cuts_as later old found [] new) (sym is) (told, done, refl)))
cut_asked tells watcher later old new line command told before after (Script (BadLine number)) is done same may = absurd may
cut_asked tells watcher later old new line command told before after (Script Read) is done same may = absurd may
cut_asked tells watcher later old new line command told before after (Script Write) is done same may = absurd may
cut_asked tells watcher later old new line command told before after (Watcher fault) is done same may =
    ([], same ∙ sym (append-nil before), may, subst (λ found. cuts_as later old found [] new) (sym is) (told, done, refl))
