-- The laws of whole histories, for the one that a world's goes on from.
use Rattle.std.proofs.Common.{◌≡◌, List, ◌++◌, true, ap, inl, inr, subst, ◌∙◌}
use Rattle.aql_packet.specs.Memory.{are_region_lengths}
use Rattle.policy.specs.Policy.{region_lengths}
use Rattle.core_model.specs.Queues.{error_of}
use Rattle.core_model.specs.declared.entry.Entry.{Entry}
use Rattle.core_model.specs.Legal.{IsWhole}
use Rattle.world.specs.States.{closed_ring_of, ring_of}
use Rattle.world.proofs.Closed.{closed_are, rings_are, stood_so}
use Rattle.world.proofs.Joining.{stands_so}
use Rattle.world.proofs.laws.headline_of.Goals as goal
use Rattle.core_model.specs.History.{Start, beginning, opening_state}

pub returns : goal.returns
returns c = λ first prior world over h.
    let start : Start = opening_state first world.core.kernels in
    let all : List Entry = prior ++ world.core.entries in
    let legal : IsWhole start all = h.whole in
    let lengths : are_region_lengths (region_lengths first) ≡ true = ap are_region_lengths over ∙ c.object_count.ensures.limits.regions in
    record {
      legal = legal;
      start_is = h.start_is;
      launches = λ before queue id bytes effects place. c.law_each_launch_was_granted.ensures start all before queue id bytes effects legal place;
      denials = λ before queue id bytes error effects place. c.law_denials_name_the_first_rule.ensures start all before queue id bytes error effects legal place;
      faults = λ before entry error place told. (
        c.law_faults_release_alone.ensures.names start all before entry error legal place (elim told [ inl e ↦ ap error_of e | inr e ↦ ap error_of e ]),
        c.law_faults_release_alone.ensures.releases start all before entry error legal place told,
      );
      writes = λ before entry place. c.law_each_write_was_granted.ensures start all before entry lengths legal place;
      changes = λ before entry place. c.law_each_signal_change_was_granted.ensures start all before entry legal place;
      group_reads = λ before queue id told effects place. c.law_each_read_of_a_group_was_granted.ensures.reads start all before queue id told effects legal place;
      group_means = λ before queue id told effects flying place found. c.law_each_read_of_a_group_was_granted.ensures.means start all before queue id told effects flying legal place found;
      group_depends = λ one other queue id own p so_far same. c.law_groups_depend_on_what_they_read.ensures start one other queue id own p so_far same;
      reads = λ client address size told is. c.law_each_read_of_a_client_is_granted.ensures (beginning world.core) world.core.entries client address size told is;
      looks = λ client signal told is. c.law_each_look_at_a_signal_is_granted.ensures.load (beginning world.core) world.core.entries client signal told is;
      tests = λ client signal condition value told is. c.law_each_look_at_a_signal_is_granted.ensures.test (beginning world.core) world.core.entries client signal condition value told is;
      listed = λ client told is. c.law_each_listed_right_is_in_force.ensures (beginning world.core) world.core.entries client told is;
      denied = record {
        write = λ client address bytes known good none. c.law_calls_without_their_right_are_denied.ensures.write (beginning world.core) world.core.entries client address bytes known good none;
        change = λ client signal operation known none. c.law_calls_without_their_right_are_denied.ensures.change (beginning world.core) world.core.entries client signal operation known none;
        opening = λ client agent size known none. c.law_calls_without_their_right_are_denied.ensures.opening (beginning world.core) world.core.entries client agent size known none;
        read = λ client address size known good none. c.law_calls_without_their_right_are_denied.ensures.read (beginning world.core) world.core.entries client address size known good none;
        load = λ client signal known none. c.law_calls_without_their_right_are_denied.ensures.load (beginning world.core) world.core.entries client signal known none;
        test = λ client signal condition value known none. c.law_calls_without_their_right_are_denied.ensures.test (beginning world.core) world.core.entries client signal condition value known none;
      };
      rings = λ queue. rings_are world.core all queue (ring_of world queue) (closed_ring_of world queue) (h.each queue);
      ring_sizes = λ queue ring found. (stands_so first prior world h queue ring found).0.size;
      in_step = λ queue ring found. (stands_so first prior world h queue ring found).0.in_step;
      closed = λ queue. closed_are world.core all queue (ring_of world queue) (closed_ring_of world queue) (h.each queue);
      closed_sizes = λ queue ring found. (stood_so first prior world h queue ring found).0.size;
      closed_in_step = λ queue ring found. (stood_so first prior world h queue ring found).0.in_step;
    }
