pub mod Found
pub mod Hosts
pub use Found.{IsOfFamily, has_ipv6}
pub use Hosts.{IsNameOf, WritesIp}
