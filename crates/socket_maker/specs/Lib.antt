pub mod Addresses
pub mod Aims
pub mod Looking
pub mod Makers
pub mod Makings
pub mod Ports
pub mod Reserves
pub mod Unlinking
pub use Makings.{opened_sort}
pub use Ports.{HasPartnerAt, is_door_port, is_unix_door_port, port_sort, sort_at}
pub use Reserves.{ReserveState}
pub use declared.port.HostPort.{HostPort}
