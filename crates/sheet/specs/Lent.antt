-- The network in the lists that a call is lent. Assumes nothing.
use Rattle.sheet.specs.declared.Network.{Network as Lent}
use Rattle.sheet.specs.Network.{Network, network}

abbrev pub network_in : Lent → Network
network_in n = network n.names.now n.lower.now n.higher.now n.weights.now
