-- What stands for a room of which nothing is chosen yet.
use Rattle.std.specs.Prelude.{[]}
use Rattle.policy.specs.declared.version.Version.TheVariants.{First}
use Rattle.access_core.specs.Cores.{Core}

abbrev pub no_core : Core
no_core = record {
  history = record {
    origin = record {
      policy = record { version = First; clients = []; agents = []; regions = []; signals = []; kernels = []; rows = record { allows = []; denies = [] } };
      grants = record {
        table = record { rules = record { clients = 0; agents = 0; regions = 0; signals = 0; kernels = 0; rows = record { allows = []; denies = [] } }; cells = [] };
        list = [];
        room = 0;
      };
      memory = [];
      signals = [];
      opened = 0;
      queues = [];
      packets = [];
      before = 0;
    };
    kernels = [];
    capacity = 0;
    entries = [];
  };
  places = record { kernel_places = 0; segment_places = 0; queue_places = 0; error_places = []; hold_places = 0; block_places = 0; audit_places = 0 };
}
